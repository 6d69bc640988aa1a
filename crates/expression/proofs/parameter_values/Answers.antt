-- After i turns of the loop the angles of the first i expressions stand in front; the first that has none ends it.
use Prim.Native.Nat.{◌+◌}
use native.Mathlib.Omega.{arith}
use mathlib.Core.Path.{sym, subst}
use Rattle.model.specs.Image.{word}
use Rattle.record_writer.proofs.WroteStepsLaws.{handed_on}
use Rattle.expression.specs.Operands.{ParametersGiven}
use Rattle.expression.proofs.AnglesLaws.{repeated_sound}
use Rattle.expression.proofs.ParameterLaws.{front_none, front_next, front_refuses}
use Rattle.expression.proofs.parameter_values.Goals as goal

pub loop-i-init : goal.loop-i-init
loop-i-init c = (front_none _ _ _ _ (repeated_sound _ c.zero-values.ensures.1), c.requires.0.constants)

pub returns-in_err-values : goal.returns-in_err-values
returns-in_err-values c = let l = c.loop-i in
    let a = c.args in
    let image = a.image.now.words.now in
    (subst (ParametersGiven _ _ _) (sym (handed_on _ c.from_residual.ensures.1)) (front_refuses image a.angles.now (λ k. word image (a.place + k)) l.i a.n c.word-e.result _ a.at _ c.loop-i-test.true l.invariant.0 c.word-e.ensures c.in_err-values.ensures.0), c.angle_of.ensures.1)

pub loop-i-preserved : goal.loop-i-preserved
loop-i-preserved c = let l = c.loop-i in
    let a = c.args in
    let image = a.image.now.words.now in
    (front_next image a.angles.now (λ k. word image (a.place + k)) l.i c.word-e.result l.values _ (omega (arith, c.loop-i-test.true, c.requires.1.few)) l.invariant.0 c.word-e.ensures c.in_ok-values.ensures.0, c.angle_of.ensures.1)
