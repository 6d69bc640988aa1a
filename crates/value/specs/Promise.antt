-- What the functions of this crate promise of their results: the equation with the definition, and lowest terms in both parts.
use Rattle.std.specs.Prelude.{◌≡◌}
use Rattle.value.specs.Value.{Sound}
use Rattle.value.specs.declared.Value.{Value}
use Rattle.value.specs.declared.Evaluation.{Evaluation}
use Rattle.value.specs.declared.Evaluation.TheVariants as evaluation

-- Both parts of the angle are in lowest terms and in range, if there is an angle.
abbrev pub SoundEvaluation : Evaluation → Type 0
SoundEvaluation (evaluation.Value x) = Sound x
SoundEvaluation evaluation.DivideByZero = Unit {0}
SoundEvaluation evaluation.Overflow = Unit {0}
SoundEvaluation (evaluation.ApproximateFail f) = Unit {0}
SoundEvaluation evaluation.FunctionOfFloats = Unit {0}

-- The result of an operation on angles is the one that is defined. That it is sound follows from the definitions, and spares callers that proof.
pub record EvaluatesTo (defined result : Evaluation) : Type 0 where
  pub is : result ≡ defined
  pub sound : SoundEvaluation result

-- The fact about the angle, if there is an angle.
abbrev pub IfValue : Evaluation → (Value → Type 0) → Type 0
IfValue (evaluation.Value x) holds = holds x
IfValue evaluation.DivideByZero holds = Unit {0}
IfValue evaluation.Overflow holds = Unit {0}
IfValue (evaluation.ApproximateFail f) holds = Unit {0}
IfValue evaluation.FunctionOfFloats holds = Unit {0}

-- The result of a further operation on the angle, if there is an angle, and otherwise the refusal.
abbrev pub GivesThen : Evaluation → (Value → Evaluation → Type 0) → Evaluation → Type 0
GivesThen (evaluation.Value x) gives result = gives x result
GivesThen evaluation.DivideByZero gives result = result ≡ evaluation.DivideByZero
GivesThen evaluation.Overflow gives result = result ≡ evaluation.Overflow
GivesThen (evaluation.ApproximateFail f) gives result = result ≡ evaluation.ApproximateFail f
GivesThen evaluation.FunctionOfFloats gives result = result ≡ evaluation.FunctionOfFloats
