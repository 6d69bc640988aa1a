-- The tangent works out the sine before the cosine: where both refuse, the answer is the sine's refusal.
use mathlib.Core.Path.{◌≡◌, refl}
use mathlib.Core.Bool.{false}
use Prim.Native.Nat.{◌+◌, ◌^◌}
use Rattle.rational.specs.Gcd.{gcd, euclid}
use Rattle.rational.specs.Rational.{ratio, fraction_sum, product, quotient}
use Rattle.value.specs.Value.{value, zero_fraction, value_sum, turn, sine_table, sine, cosine, tangent, value_quotient}
use Rattle.value.specs.declared.Value.{Value}
use Rattle.value.specs.declared.Evaluation.TheVariants as evaluation

-- The angle 2/(2^62+1)·pi, whose sine is a function of floats and whose cosine is an overflow.
abbrev narrow_angle : Value
narrow_angle = value zero_fraction (ratio false 2 (2 ^ 62 + 1))

pub sine_first : (sine narrow_angle ≡ evaluation.FunctionOfFloats) × (cosine narrow_angle ≡ evaluation.Overflow) × (tangent narrow_angle ≡ evaluation.FunctionOfFloats)
unfolding sine cosine tangent turn sine_table value_sum value_quotient fraction_sum product quotient gcd euclid
sine_first = (refl, refl, refl)
