-- The angles are put in turn: after i turns of the loop the words of the first i stand.
use Prim.Native.Nat.{◌+◌, ◌*◌, ◌<◌}
use native.Mathlib.Omega.{arith}
use mathlib.Core.Path.{refl, ap, ◌∙◌}
use lib.ListN.{length}
use lib.Seq.{sets}
use Rattle.std.proofs.lemmas.List.{get_or_default}
use Rattle.model.specs.Evaluate.{zero_value}
use Rattle.kept_body.specs.Slot.{words_of_value}
use Rattle.kept_body.proofs.SlotLaws.{angles_none, angles_next}
use Rattle.kept_body.proofs.put_angles.Goals as goal

pub loop-i-init : goal.loop-i-init
loop-i-init c = (angles_none _ c.args.angles.now, refl)

pub loop-i-preserved : goal.loop-i-preserved
loop-i-preserved c = let known : c.loop-i.i < length c.args.angles.now = omega (arith, c.loop-i-test.true, c.requires.1, c.told-angles) in (
  angles_next c.args.slot.now c.args.angles.now c.loop-i.i known c.loop-i.invariant.0
      (c.put_value.ensures ∙ ap (λ x. sets c.loop-i.slot (4 + 6 * c.loop-i.i) (words_of_value x)) (get_or_default c.args.angles.now c.loop-i.i _ zero_value known)),
  c.put_value.auto.words ∙ c.loop-i.invariant.1,
)
