-- After i turns of the loop the angles of the first i expressions stand in front; the first that has none ends it.
use Prim.Native.Nat.{◌+◌}
use Rattle.model.specs.Image.{word}
use Rattle.expression.specs.KeptValues.{ConstantsKept}
use Rattle.expression.proofs.ParameterLaws.{Front}
use Rattle.expression.proofs.parameter_values.Given as goal

abbrev pub invariant-loop-i : goal.invariant-loop-i
invariant-loop-i l = Front l.image.words.now l.angles (λ k. word l.image.words.now (l.place + k)) l.i l.values × ConstantsKept l.image.words.now l.kept_values
