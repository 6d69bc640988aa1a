-- The statements of a scope are looked at in their order up to the first bad one.
use native.Mathlib.Omega.{arith}
use mathlib.Core.Path.{refl, ap, ◌∙◌}
use Prim.Native.Nat.{◌≤◌}
use Rattle.model.specs.Image.{statement_at}
use Rattle.model.specs.Check.{flaw}
use Rattle.image_check.proofs.FirstBadLaws.{scope_flaw, from_start, from_next, from_here, from_end, number_some}
use Rattle.image_check.proofs.statements.JudgedScope.first_bad_statement.Goals as goal
use Rattle.image_check.proofs.statements.JudgedScope.first_bad_statement.Goals.{In-Some}

-- the statement at hand is one of an image
few : (b : In-Some) → b.in-Some.s ≤ 8192
few b = let image = b.args.self.now.scope.image in
    omega (arith, b.in-Some.ensures.steps.1.0, b.in-Some.ensures.steps.1.1, b.loop-s.invariant.1, ap (λ r. r.end) b.into_iter-s-iterator.ensures.into_iter_gives, b.statements_of-span.ensures.listed, image.laid)

pub statement_flaw-requires : goal.statement_flaw-requires
statement_flaw-requires c = few (goal.at.statement_flaw-requires c).In-Some

pub statement_at-requires : goal.statement_at-requires
statement_at-requires c = omega (arith, few (goal.at.statement_at-requires c).In-Some)

pub loop-s-init : goal.loop-s-init
loop-s-init c = let scope = c.args.self.now.scope in
    let image = scope.image.words.now in
    (rw c.into_iter-s-iterator.ensures.into_iter_gives (from_start (flaw image scope.number) (statement_at image) (scope_flaw image scope.number) _ _ _ c.statements_of-span.ensures.statements_are refl), refl)

pub returns-in-Err : goal.returns-in-Err
returns-in-Err c = let scope = c.args.self.now.scope in
    let image = scope.image.words.now in
    let at = c.in-Some.ensures.steps.1 in
    c.at.ensures
    ∙ from_here (flaw image scope.number) (statement_at image) (scope_flaw image scope.number) _ _ _ _
    c.loop-s.invariant.0 (omega (arith, at.0)) (c.in-Err.ensures ∙ ap (flaw image scope.number) at.1) (number_some c.in-Err.flaw) (c.statement_at.ensures.is ∙ ap (statement_at image) at.1)

pub loop-s-preserved : goal.loop-s-preserved
loop-s-preserved c = let scope = c.args.self.now.scope in
    let image = scope.image.words.now in
    let steps = c.in-Some.ensures.steps in (
      rw (steps.0, steps.1.2) (from_next (flaw image scope.number) (statement_at image) (scope_flaw image scope.number) _ _
          c.loop-s.invariant.0 (omega (arith, steps.1.0)) (c.in_default.ensures ∙ ap (flaw image scope.number) steps.1.1)),
      steps.0 ∙ c.loop-s.invariant.1,
    )

pub returns : goal.returns
returns c = let scope = c.args.self.now.scope in
    let image = scope.image.words.now in
    from_end (flaw image scope.number) (statement_at image) (scope_flaw image scope.number) _ _ c.loop-s.invariant.0 (omega (arith, c.in-None.ensures.steps.1.0))
