-- An if is tallied with the statement that it holds, any other statement by itself.
use Rattle.std.proofs.Common.{◌∙◌}
use Rattle.model.specs.Tally.{statement_tally, plain_tally}
use Rattle.tally.specs.Weights.{capped_figures}
use Rattle.tally.proofs.CappedLaws.{alike}
use Rattle.tally.proofs.BodyTallyLaws.{plain_comes}
use Rattle.tally.proofs.scope.OpenedScope.statement_figures.Goals as goal

pub returns-in-Conditional : goal.returns-in-Conditional
unfolding statement_tally plain_tally capped_figures
returns-in-Conditional c = rw (← c.in-Conditional.ensures) c.conditional_figures.ensures

pub returns-in_default : goal.returns-in_default
returns-in_default c = let a = c.args.self.now in
    c.plain_figures.ensures ∙ alike _ _ (plain_comes a.image.now.words.now a.levels a.scope c.statement.result c.args.s c.in_default.not-Conditional c.statement.ensures)
