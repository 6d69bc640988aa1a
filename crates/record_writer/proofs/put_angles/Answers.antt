-- The angles are put in turn: after i turns of the loop the words of the first i stand.
use native.Mathlib.Omega.{arith}
use mathlib.Core.Path.{refl, ◌∙◌}
use Rattle.record_writer.proofs.AngleWordsLaws.{angle_sound, angles_none, angles_more}
use Rattle.record_writer.proofs.put_angles.Goals as goal

pub loop-i-init : goal.loop-i-init
loop-i-init c = (angles_none _ _ c.args.angles, refl)

pub put_angle-requires : goal.put_angle-requires
put_angle-requires c = (omega (arith, c.loop-i.invariant.1), angle_sound c.requires.0.sound c.loop-i.i _ (omega (arith, c.requires.0.few)))

pub loop-i-preserved : goal.loop-i-preserved
loop-i-preserved c = let a = c.args in (
  angles_more a.words.now a.start c.loop-i.i a.angles _ (omega arith) c.loop-i.invariant.0 c.put_angle.ensures,
  c.put_angle.auto.words ∙ c.loop-i.invariant.1,
)
