-- The statements of a scope are looked at in their order up to the first bad one.
use mathlib.Core.Path.{◌≡◌}
use Rattle.model.specs.Image.{statement_at}
use Rattle.model.specs.Check.{flaw}
use Rattle.image_check.proofs.FirstBadLaws.{scope_flaw, From}
use Rattle.image_check.proofs.statements.JudgedScope.first_bad_statement.Given as goal

abbrev pub invariant-loop-s : goal.invariant-loop-s
invariant-loop-s l = let scope = l.self.scope in
    let image = scope.image.words.now in
    (From (flaw image scope.number) (statement_at image) (scope_flaw image scope.number) l.s-iterator.start l.s-iterator.end) × (l.s-iterator.end ≡ l.initial.s-iterator.end)
