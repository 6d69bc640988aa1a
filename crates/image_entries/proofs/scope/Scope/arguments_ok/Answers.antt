-- One argument that is not well formed is enough.
use mathlib.Core.Path.{sym, ◌∙◌}
use Rattle.model.specs.Check.{argument_ok}
use Rattle.model.proofs.Ranges.{all_fails}
use Rattle.image_entries.proofs.scope.Scope.arguments_ok.Goals as goal

pub returns-then-not-argument_ok : goal.returns-then-not-argument_ok
returns-then-not-argument_ok c = let scope = c.args.self.now in
    all_fails (argument_ok scope.image.words.now scope.number) _ _ _ c.loop-i-test.true (sym c.argument_ok.ensures ∙ c.if-not-argument_ok.true)
