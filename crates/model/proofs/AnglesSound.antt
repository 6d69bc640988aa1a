-- Every angle that a step writes is in lowest terms and in range. With the rule of the depth that is all that specs/Claims.antt claims of the steps, of every image.
use Prim.Native.Nat.{ℕ, zero, suc}
use mathlib.Core.Path.{◌≡◌, subst}
use mathlib.Core.List.{List, [], ◌∷◌}
use lib.ListN.{get_or}
use lib.Ieee.{binary32, of_bits}
use lib.Ieee.Bits.{of_bits-fits}
use Rattle.value.specs.declared.Value.{Value}
use Rattle.value.specs.declared.Evaluation.{Evaluation}
use Rattle.value.specs.declared.Evaluation.TheVariants as evaluation
use Rattle.value.specs.Value.{Sound}
use Rattle.value.specs.Promise.{SoundEvaluation}
use Rattle.value.proofs.SoundLaws.{zero_lowest, one_lowest, integer_sound, from_float_sound, then_sound, sum_sound_value, difference_sound_value, product_sound_value, quotient_sound_value, power_sound_value, negation_sound, square_root_sound, sine_sound, cosine_sound, tangent_sound}
use Rattle.value.specs.Value.{exponential, logarithm}
use Rattle.model.specs.Image.{Expr, Pi, Real, Int, Var, Binary, Unary, Binop, Add, Sub, Mul, Div, Pow, Unop, Neg, Sin, Cos, Tan, Exp, Ln, Sqrt, expression, expression_at}
use Rattle.model.specs.Evaluate.{zero_value, binary, unary, value_of, evaluate}
use Rattle.model.specs.Records.{Record}
use Rattle.model.specs.Steps.{Step, write, enter, refuse, Frame, Values, have, lack, also, parameter_values, push_frame, head_record}
use Rattle.model.specs.Claims.{angles_of, StepClaims}
use Rattle.model.proofs.All.{All-weaken, members-All}
use Rattle.model.specs.All.{All, nil, cons}
use Rattle.model.proofs.Origins.{Writes, writes-U, writes-CX, writes_opaque, writes_barrier, writes_measure, writes_reset, writes_start, writes_end, Reached, main, called, Origin, head, writes, cuts, enters, refuses, origins}
use Rattle.model.proofs.Depth.{depth_rule}

-- ---- expressions

pub zero_sound : Sound zero_value
zero_sound = record { rational_part = zero_lowest; pi_part = zero_lowest }

-- an entry that a list lacks is 0
entry_sound : {values : List Value} → All Sound values → (i : ℕ) → Sound (get_or values i zero_value)
entry_sound nil i = zero_sound
entry_sound (cons h k) zero = h
entry_sound (cons h k) (suc i) = entry_sound k i

binary_sound : (op : Binop) (x y : Value) → Sound x → Sound y → SoundEvaluation (binary op x y)
unfolding binary
binary_sound Add = sum_sound_value
binary_sound Sub = difference_sound_value
binary_sound Mul = product_sound_value
binary_sound Div = quotient_sound_value
binary_sound Pow = power_sound_value

unary_sound : (op : Unop) (x : Value) → Sound x → SoundEvaluation (unary op x)
unfolding unary exponential logarithm
unary_sound Neg = negation_sound
unary_sound Sin = sine_sound
unary_sound Cos = cosine_sound
unary_sound Tan = tangent_sound
unary_sound Exp = λ x h. tt
unary_sound Ln = λ x h. tt
unary_sound Sqrt = square_root_sound

-- sound values, if they are had
abbrev Had : Values → Type 0
Had (have xs) = All Sound xs
Had (lack x) = Unit {0}

also_sound : (x : Evaluation) (place : ℕ) (v : Values) → SoundEvaluation x → Had v → Had (also x place v)
unfolding also
also_sound (evaluation.Value x) place (have xs) h k = cons h k
also_sound (evaluation.Value x) place (lack r) h k = tt
also_sound evaluation.DivideByZero place v h k = tt
also_sound (evaluation.ApproximateFail f) place v h k = tt
also_sound evaluation.Overflow place v h k = tt
also_sound evaluation.FunctionOfFloats place v h k = tt

module _ (image : List ℕ) (values : List Value) (sound : All Sound values) where
  value_sound : (operand : ℕ → Evaluation) → ((e : ℕ) → SoundEvaluation (operand e)) → (x : Expr) → SoundEvaluation (value_of values operand x)
  unfolding value_of
  value_sound operand h Pi = record { rational_part = zero_lowest; pi_part = one_lowest _ }
  value_sound operand h (Real bits) = from_float_sound (of_bits binary32 bits) (of_bits-fits binary32 bits)
  value_sound operand h (Int n) = integer_sound n
  value_sound operand h (Var i) = entry_sound sound i
  value_sound operand h (Binary op a b) = then_sound (operand a) _ (h a) λ x p. then_sound (operand b) _ (h b) λ y q. binary_sound op x y p q
  value_sound operand h (Unary op a) = then_sound (operand a) _ (h a) (unary_sound op)
  value_sound operand h Expr.Unknown = tt

  evaluate_sound : (k e : ℕ) → SoundEvaluation (evaluate image values k e)
  unfolding evaluate
  evaluate_sound zero e = tt
  evaluate_sound (suc k) e = value_sound (evaluate image values k) (evaluate_sound k) (expression image e)

  parameters_had : (es : List ℕ) → Had (parameter_values image values es)
  unfolding parameter_values
  parameters_had [] = nil
  parameters_had (e ∷ es) = also_sound (evaluate image values 32 e) (expression_at image e) (parameter_values image values es) (evaluate_sound 32 e) (parameters_had es)

  parameters_sound : (es : List ℕ) {xs : List Value} → parameter_values image values es ≡ have xs → All Sound xs
  parameters_sound es e = subst Had e (parameters_had es)

-- ---- steps

module _ (image : List ℕ) (depth : ℕ) where
  -- the values in a frame that is reached
  frame_sound : {n : ℕ} {frame : Frame} → Reached image depth n frame → All Sound frame.values
  unfolding push_frame
  frame_sound main = nil
  frame_sound (called {frame} r c) = parameters_sound image frame.values (frame_sound r) _ c.evaluated

  written_sound : {frame : Frame} {r : Record} → All Sound frame.values → Writes image frame r → All Sound (angles_of r)
  unfolding angles_of
  written_sound {frame} ok (writes-U h e l) =
      let s = parameters_sound image frame.values ok _ e in
      cons (entry_sound s 0) (cons (entry_sound s 1) (cons (entry_sound s 2) nil))
  written_sound ok (writes-CX h l d) = nil
  written_sound {frame} ok (writes_opaque c b d) = parameters_sound image frame.values ok _ c.evaluated
  written_sound ok (writes_barrier h) = nil
  written_sound ok (writes_measure h l) = nil
  written_sound ok (writes_reset h l) = nil
  written_sound ok (writes_start m e) = nil
  written_sound ok writes_end = nil

  abbrev SoundStep : Step → Type 0
  SoundStep (write t r) = All Sound (angles_of r)
  SoundStep (enter t g) = Unit {0}
  SoundStep (refuse t x) = Unit {0}

  step_sound : (s : Step) → Origin image depth s → SoundStep s
  unfolding angles_of head_record
  step_sound s head = nil
  step_sound s (writes r w) = written_sound (frame_sound r) w
  step_sound s (cuts r c e) = nil
  step_sound s (enters r c) = tt
  step_sound s (refuses r) = tt

  pub step_claims : StepClaims image depth
  step_claims = record {
    depths = depth_rule image depth;
    angles = λ t r m. members-All (members-All {P = SoundStep} (All-weaken step_sound (origins image depth)) (write t r) m);
  }
