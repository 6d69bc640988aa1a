-- What an expression entry comes to, once its operands are worked out, and what the values of some expressions are.
use Rattle.std.specs.Prelude.{ℕ, ◌≤◌, ◌≡◌, List, T, take, Result, Ok, Err}
use Rattle.value.specs.declared.Value.{Value}
use Rattle.value.specs.declared.Evaluation.{Evaluation}
use Rattle.value.specs.declared.Evaluation.TheVariants as evaluation
use Rattle.value.specs.Value.{Sound}
use Rattle.model.specs.Limits.{most_levels, most_parameters}
use Rattle.model.specs.Check.{expression_ok}
use Rattle.model.specs.Steps.{Values, have, lack, also, Refusal}
use Rattle.model.specs.Run.{refused}
use Rattle.record_writer.specs.declared.Position.{Position}
use Rattle.record_writer.specs.declared.LinearizeErrorKind.{LinearizeErrorKind}
use Rattle.record_writer.specs.declared.LinearizeError.{LinearizeError}
use Rattle.record_writer.specs.Promise.{SoundAngles, refusal_answer}

-- an expression that the check accepts: of at most so many levels as the limit says, with some variables that a gate may have
pub record AcceptedExpression (image : List ℕ) (e : ℕ) : Type 0 where
  pub variables : ℕ
  pub few : variables ≤ most_parameters
  pub formed : T (expression_ok image variables most_levels e)

-- an evaluation that came to no angle
abbrev pub NoValue : Evaluation → Type 0
NoValue r = (x : Value) → ¬ (r ≡ evaluation.Value x)

-- the refusal of an evaluation that came to no angle, of an expression at a place
pub record RefusalOf (r : Evaluation) (place : ℕ) (kind : LinearizeErrorKind) : Type 0 where
  pub why : Refusal
  pub lacks : (later : Values) → also r place later ≡ lack why
  pub answers : (t : List ℕ) → refusal_answer kind t ≡ refused t why

-- the refusal at a position of an expression at a place, whose evaluation came to no angle
pub record RefusedAt (r : Evaluation) (place : ℕ) (at : Position) (e : LinearizeError) : Type 0 where
  pub here : e.at ≡ at
  pub why : RefusalOf r place e.kind

-- the angle of an evaluation, or its refusal at a position, of an expression at a place
abbrev pub AngleGiven : Evaluation → ℕ → Position → Result Value LinearizeError → Type 0
AngleGiven r place at (Ok x) = (r ≡ evaluation.Value x) × Sound x
AngleGiven r place at (Err e) = RefusedAt r place at e

-- the values of n expressions stand in front of sixteen angles, or the first that has none is refused; nothing is written
abbrev pub ParametersGiven : Values → ℕ → Position → Result (List Value) LinearizeError → Type 0
ParametersGiven vs n at (Ok angles) = SoundAngles angles × (vs ≡ have (take n angles))
ParametersGiven vs n at (Err e) = (e.at ≡ at) × ((x : Refusal) × (vs ≡ lack x) × ((t : List ℕ) → refusal_answer e.kind t ≡ refused t x))
