-- The values of expressions that are kept: a constant's for the whole run, any other's for one evaluation.
use Rattle.std.specs.Prelude.{ℕ, ◌≤◌, ◌<◌, ◌≡◌, Bool, true, false, ◌&&◌, List, Option, Some, None, length, get_or}
use Rattle.value.specs.declared.Value.{Value}
use Rattle.value.specs.declared.Evaluation.{Evaluation}
use Rattle.value.specs.declared.Evaluation.TheVariants as evaluation
use Rattle.value.specs.Promise.{EvaluatesTo}
use Rattle.model.specs.Limits.{most_levels}
use Rattle.model.specs.Image.{Expr, Pi, Real, Int, Var, Binary, Unary, expressions}
use Rattle.model.specs.Evaluate.{evaluate}
use Rattle.record_writer.specs.Promise.{SoundAngles}
use Rattle.expression.specs.declared.KeptValue.{KeptValue}
use Rattle.expression.specs.declared.KeptValue.TheVariants.{Nothing, Once, Constant}

-- the value that is known of an entry: a constant's in any case, any other's if it is marked
abbrev pub known_value : Bool → KeptValue → Option Value
known_value marked Nothing = None
known_value true (Once x) = Some x
known_value false (Once x) = None
known_value marked (Constant x) = Some x

-- ---- constants

-- an entry's value is the same whatever the parameters are
abbrev pub IsConstant : List ℕ → ℕ → Type 0
IsConstant image e = (xs ys : List Value) → evaluate image xs most_levels e ≡ evaluate image ys most_levels e

-- whether what is kept is a constant's value
abbrev pub is_kept_constant : KeptValue → Bool
is_kept_constant Nothing = false
is_kept_constant (Once x) = false
is_kept_constant (Constant x) = true

-- whether no parameter goes into an entry, for all that is kept of its operands
abbrev pub from_constants : List KeptValue → Expr → Bool
from_constants kept Pi = true
from_constants kept (Real b) = true
from_constants kept (Int n) = true
from_constants kept (Var i) = false
from_constants kept (Binary f a b) = is_kept_constant (get_or kept a Nothing) && is_kept_constant (get_or kept b Nothing)
from_constants kept (Unary f a) = is_kept_constant (get_or kept a Nothing)
from_constants kept Expr.Unknown = false

-- the operands of an entry are numbers below n
abbrev pub operands_within : ℕ → Expr → Type 0
operands_within n Pi = Unit {0}
operands_within n (Real b) = Unit {0}
operands_within n (Int k) = Unit {0}
operands_within n (Var i) = Unit {0}
operands_within n (Binary f a b) = (a < n) × (b < n)
operands_within n (Unary f a) = a < n
operands_within n Expr.Unknown = Unit {0}

-- ---- tables

-- what is kept as a constant's value is the entry's whatever the parameters are, and there is room for all
pub record ConstantsKept (image : List ℕ) (kept : List KeptValue) : Type 0 where
  pub room : expressions image ≤ length kept
  pub each : (e : ℕ) → e < expressions image → (x : Value) → get_or kept e Nothing ≡ Constant x → (angles : List Value) → EvaluatesTo (evaluate image angles most_levels e) (evaluation.Value x)

-- what is known is the entry's value with the parameters at hand, and there is a mark for each entry
pub record ValuesKept (image : List ℕ) (angles : List Value) (known : List Bool) (kept : List KeptValue) : Type 0 where
  pub constants : ConstantsKept image kept
  pub marks : expressions image ≤ length known
  pub each : (e : ℕ) → e < expressions image → (x : Value) → known_value (get_or known e false) (get_or kept e Nothing) ≡ Some x → EvaluatesTo (evaluate image angles most_levels e) (evaluation.Value x)

-- where expressions are evaluated: the angles of the frame are sound, and what is kept as a constant's value is so
pub record AngleContext (image : List ℕ) (angles : List Value) (kept : List KeptValue) : Type 0 where
  pub sound : SoundAngles angles
  pub constants : ConstantsKept image kept

-- an expression was evaluated with the angles of a frame, and what is kept by then is right
abbrev pub Evaluated : List ℕ → List Value → ℕ → Evaluation → List Bool → List KeptValue → Type 0
Evaluated image angles e r known kept = EvaluatesTo (evaluate image angles most_levels e) r × ValuesKept image angles known kept
