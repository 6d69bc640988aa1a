-- The angles that were compared are the same: after i turns of the loop the first i of them are.
use native.Mathlib.Omega.{arith}
use mathlib.Core.Path.{sym, ◌∙◌}
use Rattle.std.proofs.lemmas.List.{get_or_default}
use Rattle.model.specs.Evaluate.{zero_value}
use Rattle.kept_body.proofs.SlotLaws.{no_difference, difference, same_none, same_next, angle_differs}
use Rattle.kept_body.proofs.same_angles.Goals as goal

pub loop-i-init : goal.loop-i-init
loop-i-init c = same_none c.args.slot.now c.args.angles.now

pub returns-then-ne : goal.returns-then-ne
returns-then-ne c = let a = c.args in
    angle_differs a.slot.now a.angles.now a.n c.loop-i.i c.loop-i-test.true
    (λ e. difference c.if-ne.ensures (c.value_at-kept.ensures ∙ e ∙ get_or_default a.angles.now c.loop-i.i zero_value _ (omega (arith, c.loop-i-test.true, c.requires.1, c.told-angles))))

pub loop-i-preserved : goal.loop-i-preserved
loop-i-preserved c = let a = c.args in
    same_next a.slot.now a.angles.now c.loop-i.i c.loop-i.invariant
    (sym c.value_at-kept.ensures ∙ no_difference c.if-ne.ensures ∙ get_or_default a.angles.now c.loop-i.i _ zero_value (omega (arith, c.loop-i-test.true, c.requires.1, c.told-angles)))
