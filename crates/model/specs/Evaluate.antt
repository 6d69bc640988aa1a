-- The value of an expression entry: document 01, "The program image" and "Fractions and angles".
use Rattle.std.specs.Prelude.{ℕ, zero, suc, List, get_or}
use Rattle.std.specs.Float.{binary32}
use Rattle.std.specs.Float.Ieee.{of_bits}
use Rattle.value.specs.declared.Value.{Value}
use Rattle.value.specs.declared.Evaluation.{Evaluation}
use Rattle.value.specs.declared.Evaluation.TheVariants as evaluation
use Rattle.value.specs.Value.{value, and_then, pi, integer, from_float, value_sum, value_difference, value_product, value_quotient, value_power, negation, sine, cosine, tangent, exponential, logarithm, square_root}
use Rattle.value.specs.Value.{zero_fraction}
use Rattle.model.specs.Image.{Expr, Pi, Real, Int, Var, Binary, Unary, Binop, Add, Sub, Mul, Div, Pow, Unop, Neg, Sin, Cos, Tan, Exp, Ln, Sqrt, expression}

unfoldable pub binary : Binop → Value → Value → Evaluation
binary Add x y = value_sum x y
binary Sub x y = value_difference x y
binary Mul x y = value_product x y
binary Div x y = value_quotient x y
binary Pow x y = value_power x y

unfoldable pub unary : Unop → Value → Evaluation
unary Neg x = negation x
unary Sin x = sine x
unary Cos x = cosine x
unary Tan x = tangent x
unary Exp x = exponential x
unary Ln x = logarithm x
unary Sqrt x = square_root x

abbrev pub zero_value : Value
zero_value = value zero_fraction zero_fraction

-- an entry's value, from the parameters' values and its operands'. "The left operand's refusal wins." An unknown kind is in no accepted image.
unfoldable pub value_of : List Value → (ℕ → Evaluation) → Expr → Evaluation
value_of values operand Pi = evaluation.Value pi
value_of values operand (Real bits) = from_float (of_bits binary32 bits)
value_of values operand (Int n) = integer n
value_of values operand (Var i) = evaluation.Value (get_or values i zero_value)
value_of values operand (Binary op a b) = and_then (operand a) (λ x. and_then (operand b) (λ y. binary op x y))
value_of values operand (Unary op a) = and_then (operand a) (λ x. unary op x)
value_of values operand Expr.Unknown = evaluation.Overflow

-- expression e, of at most k levels; "An expression has at most 32 levels", so that none is cut short in an accepted image
unfoldable pub evaluate : List ℕ → List Value → ℕ → ℕ → Evaluation
evaluate image values zero e = evaluation.Overflow
evaluate image values (suc k) e = value_of values (evaluate image values k) (expression image e)
