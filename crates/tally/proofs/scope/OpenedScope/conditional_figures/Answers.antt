-- An if adds its two records to those of the statement that it holds.
use Rattle.std.proofs.Common.{◌∙◌, arith}
use Rattle.model.specs.Tally.{conditional_tally}
use Rattle.tally.specs.Weights.{plain_figure}
use Rattle.tally.proofs.CappedLaws.{sum_of, alike, conditional_is}
use Rattle.tally.proofs.scope.OpenedScope.conditional_figures.Goals as goal

pub returns : goal.returns
unfolding conditional_tally
returns c = let a = c.args.self.now in
    let image = a.image.now.words.now in
    sum_of _ (plain_figure image a.levels a.scope _) _ _ _ conditional_is (rw c.statement.ensures at c.plain_figures.ensures) c.plus.ensures
    ∙ alike _ _ (λ j. omega arith)
