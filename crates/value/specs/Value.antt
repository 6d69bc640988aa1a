-- Document 01, "Fractions and angles": an angle a + b·pi, and its arithmetic in the source's order (value.rs).
use Rattle.std.specs.Prelude.{Option, Some, None, ℕ, ◌^◌, Bool, true, false, ◌&&◌, ◌||◌, cond, eqb, ltb, Float}
use Rattle.std.specs.Float.{binary32}
use Rattle.std.specs.Float.Ieee.{of_bits, add, mul, div}
use Rattle.rational.specs.declared.Rational64.{Rational64}
use Rattle.rational.specs.Rational.{LowestTerms, magnitude_in_range, ratio, fraction_sum, difference, product, quotient, power, rational_root, reciprocal, fractional_part, is_zero, same_fraction, and_then_option, both}
use Rattle.float.specs.Float.{approximate_float, ratio_float}
use Rattle.value.specs.declared.Value.{Value}
use Rattle.value.specs.declared.Evaluation.{Evaluation}
use Rattle.value.specs.declared.Evaluation.TheVariants as evaluation

-- "An angle is a + b·pi, two fractions."
pub record Sound (x : Value) : Type 0 where
  pub rational_part : LowestTerms x.a
  pub pi_part : LowestTerms x.b

-- The angle a + b·pi.
abbrev pub value : Rational64 → Rational64 → Value
value a b = record { a = a; b = b }

-- The fraction 0.
abbrev pub zero_fraction : Rational64
zero_fraction = ratio false 0 1

-- The fraction 1.
abbrev pub one : Rational64
one = ratio false 1 1

-- The fraction 2.
abbrev pub two : Rational64
two = ratio false 2 1

-- The fraction 1/2.
abbrev pub half : Rational64
half = ratio false 1 2

-- ---- results

-- The angle a, with no part of pi.
abbrev pub rational_value : Rational64 → Evaluation
rational_value a = evaluation.Value (value a zero_fraction)

-- What is made of a fraction, or overflow where there is none: refusal 11.
abbrev pub or_overflow : Option Rational64 → (Rational64 → Evaluation) → Evaluation
or_overflow (Some x) make = make x
or_overflow None make = evaluation.Overflow

-- The angle of both parts, or overflow where one of them is missing.
abbrev pub parts_or_overflow : Option Rational64 → Option Rational64 → Evaluation
parts_or_overflow a b = or_overflow a (λ x. or_overflow b (λ y. evaluation.Value (value x y)))

-- A further operation on an angle, if there is one: a refusal stands. "The left operand's refusal wins."
abbrev pub and_then : Evaluation → (Value → Evaluation) → Evaluation
and_then (evaluation.Value x) operation = operation x
and_then evaluation.DivideByZero operation = evaluation.DivideByZero
and_then evaluation.Overflow operation = evaluation.Overflow
and_then (evaluation.ApproximateFail f) operation = evaluation.ApproximateFail f
and_then evaluation.FunctionOfFloats operation = evaluation.FunctionOfFloats

-- ---- constants and floats

-- The angle pi.
abbrev pub pi : Value
pi = value zero_fraction one

-- The angle pi/2.
abbrev pub half_pi : Value
half_pi = value zero_fraction half

-- A whole number as an angle: "A literal of 2^63 or more wraps in the Rust; here it is 11".
unfoldable pub integer : ℕ → Evaluation
integer n = cond (magnitude_in_range n) (rational_value (ratio false n 1)) evaluation.Overflow

-- "`into_float`: n and d each rounded to the nearest f32, ties to even; each n/d divided once; then a + c·b with c the f32 of bits hexadecimal 40490FDB."
unfoldable pub into_float : Value → Float
into_float x = add binary32 (ratio_float x.a) (mul binary32 (of_bits binary32 0x40490FDB) (ratio_float x.b))

-- The angle of a fraction, or the f32 that has none: refusal 10.
abbrev pub or_float : Option Rational64 → Float → Evaluation
or_float (Some x) f = rational_value x
or_float None f = evaluation.ApproximateFail f

-- The exact value of an f32 as an angle, or the f32 itself: refusal 10.
unfoldable pub from_float : Float → Evaluation
from_float f = or_float (approximate_float f) f

-- ---- the operations

-- "The sum and difference go part by part."
unfoldable pub value_sum : Value → Value → Evaluation
value_sum x y = parts_or_overflow (fraction_sum x.a y.a) (fraction_sum x.b y.b)

-- The difference goes part by part, as the sum does.
unfoldable pub value_difference : Value → Value → Evaluation
value_difference x y = parts_or_overflow (difference x.a y.a) (difference x.b y.b)

-- "pi² = 6499908331188584841/658578405682719844"
abbrev pub pi_squared : Rational64
pi_squared = ratio false 6499908331188584841 658578405682719844

-- The rational part of the product, a·a' + b·b'·pi².
abbrev pub product_rational_part : Value → Value → Option Rational64
product_rational_part x y = both fraction_sum (product x.a y.a) (and_then_option (product x.b y.b) (λ bb. product bb pi_squared))

-- The part of pi of the product, b·a' + a·b'.
abbrev pub product_pi_part : Value → Value → Option Rational64
product_pi_part x y = both fraction_sum (product x.b y.a) (product x.a y.b)

-- The product (a + b·pi)·(a' + b'·pi) = a·a' + b·b'·pi² + (b·a' + a·b')·pi.
unfoldable pub value_product : Value → Value → Evaluation
value_product x y = parts_or_overflow (product_rational_part x y) (product_pi_part x y)

-- The source's `neg_internal`, which is the product with -1.
unfoldable pub negation : Value → Evaluation
negation x = value_product x (value (ratio true 1 1) zero_fraction)

-- The quotient by floats: "one f32 division of both `into_float` results, made a fraction".
unfoldable pub approximate_quotient : Value → Value → Evaluation
approximate_quotient x y = from_float (div binary32 (into_float x) (into_float y))

-- The quotient of two angles whose parts have the ratios p and q: "the common ratio if a/a' = b/b'. Otherwise one f32 division".
abbrev pub common_ratio : Value → Value → Rational64 → Rational64 → Evaluation
common_ratio x y p q = cond (same_fraction p q) (rational_value p) (approximate_quotient x y)

-- "Division by 0: refusal 9. By a rational: both parts. Pi multiple by pi multiple: rational. Both parts of the divisor nonzero: the common ratio if a/a' = b/b'. Otherwise one f32 division"
unfoldable pub value_quotient : Value → Value → Evaluation
value_quotient x y =
    cond (is_zero y.b)
    (cond (is_zero y.a) evaluation.DivideByZero (parts_or_overflow (quotient x.a y.a) (quotient x.b y.a)))
    (cond (is_zero y.a)
    (cond (is_zero x.a) (or_overflow (quotient x.b y.b) rational_value) (approximate_quotient x y))
    (or_overflow (quotient x.a y.a) (λ p. or_overflow (quotient x.b y.b) (λ q. common_ratio x y p q))))

-- The first index of a root that ends in refusal 13 for its size.
abbrev pub root_index_limit : ℕ
root_index_limit = 2 ^ 32

-- "With root 1, or where the power so far is 1, no root is taken. Else a root above 2^32-1, a negative or an inexact root ends in 13." A root that is missing is refusal 13.
unfoldable pub extract_root : ℕ → Rational64 → Option Rational64
extract_root k x = cond (eqb k 1 || same_fraction x one) (Some x) (cond (ltb k root_index_limit) (rational_root k x) None)

-- "A negative exponent inverts; a zero root is then 9."
abbrev pub inverted : Bool → Rational64 → Evaluation
inverted negative r = cond negative (cond (is_zero r) evaluation.DivideByZero (rational_value (reciprocal r))) (rational_value r)

-- What is made of a root, or a function of floats where there is none: refusal 13.
abbrev pub or_function_of_floats : Option Rational64 → (Rational64 → Evaluation) → Evaluation
or_function_of_floats (Some r) make = make r
or_function_of_floats None make = evaluation.FunctionOfFloats

-- "Power: both rational, base to |n| first, then the d-th root; 0^0 is 1."
unfoldable pub value_power : Value → Value → Evaluation
value_power x y =
    cond (is_zero x.b && is_zero y.b)
    (or_overflow (power x.a y.a.numer) (λ p. or_function_of_floats (extract_root y.a.denom p) (inverted y.a.negative)))
    evaluation.FunctionOfFloats

-- "sqrt: the rational root if b is zero and a's n and d are both squares."
unfoldable pub square_root : Value → Evaluation
square_root x = cond (is_zero x.b) (or_function_of_floats (rational_root 2 x.a) rational_value) evaluation.FunctionOfFloats

-- "0 gives 0; 1/6 and 5/6 give 1/2; 1/2 gives 1; 7/6 and 11/6 give -1/2; 3/2 gives -1 (Niven). The source's list has no 1, so sin(pi) goes to an f32 function."
unfoldable pub sine_table : Rational64 → Evaluation
sine_table f =
    cond (same_fraction f zero_fraction) (rational_value zero_fraction)
    (cond (same_fraction f (ratio false 1 6) || same_fraction f (ratio false 5 6)) (rational_value half)
    (cond (same_fraction f half) (rational_value one)
    (cond (same_fraction f (ratio false 7 6) || same_fraction f (ratio false 11 6)) (rational_value (ratio true 1 2))
    (cond (same_fraction f (ratio false 3 2)) (rational_value (ratio true 1 1)) evaluation.FunctionOfFloats))))

-- The fraction from 0 to below 2: "add 2 if negative", and "The adding of 2 is a sum as above."
abbrev pub wrapped : Rational64 → Option Rational64
wrapped f = cond f.negative (fraction_sum f two) (Some f)

-- "sin of b·pi: halve b, drop the whole part toward zero, double, add 2 if negative."
unfoldable pub turn : Rational64 → Option Rational64
turn b = and_then_option (quotient b two) (λ h. and_then_option (product (fractional_part h) two) wrapped)

-- The sine of an angle that is a multiple of pi; any other one goes to an f32 function.
unfoldable pub sine : Value → Evaluation
sine x = cond (is_zero x.a) (or_overflow (turn x.b) sine_table) evaluation.FunctionOfFloats

-- "cos adds pi/2 first."
unfoldable pub cosine : Value → Evaluation
cosine x = and_then (value_sum x half_pi) sine

-- "tan is sin divided by cos, sin evaluated first."
unfoldable pub tangent : Value → Evaluation
tangent x = and_then (sine x) (λ s. and_then (cosine x) (λ c. value_quotient s c))

-- "Everything that the Rust sends to an f32 function (exp and ln always) ends in 13 here."
unfoldable pub exponential : Value → Evaluation
exponential x = evaluation.FunctionOfFloats

-- The logarithm always goes to an f32 function.
unfoldable pub logarithm : Value → Evaluation
logarithm x = evaluation.FunctionOfFloats
