-- The definitions give what document 01 says at the edges that it names.
use mathlib.Core.Path.{◌≡◌, refl}
use mathlib.Core.Bool.{Bool, true, false}
use Prim.Native.Nat.{ℕ, ◌^◌}
use Rattle.rational.specs.Gcd.{gcd, euclid}
use Rattle.rational.specs.Root.{root, root_digits}
use Rattle.rational.specs.Rational.{ratio, fraction_sum, product, quotient, power, whole_root, rational_root}
use Rattle.value.specs.Value.{zero_fraction, one, half, value, rational_value, extract_root, value_power, sine_table, turn, sine}
use Rattle.value.specs.declared.Value.{Value}
use Rattle.value.specs.declared.Evaluation.TheVariants as evaluation

-- The angle ±n/d.
abbrev rational_angle : Bool → ℕ → ℕ → Value
rational_angle s n d = value (ratio s n d) zero_fraction

-- The angle ±n/d·pi.
abbrev pi_times : Bool → ℕ → ℕ → Value
pi_times s n d = value zero_fraction (ratio s n d)

-- The definitions that compute in the cases below.
unfoldable arithmetic_definitions : ℕ
unfolding gcd euclid root root_digits fraction_sum product quotient power whole_root rational_root extract_root value_power sine_table turn sine
arithmetic_definitions = 0

-- The base is raised to |n| before the root is taken: (-8)^(2/3) is 4, though -8 itself has no root here.
base_first : (value_power (rational_angle true 8 1) (rational_angle false 2 3) ≡ rational_value (ratio false 4 1)) × (value_power (rational_angle true 8 1) (rational_angle false 1 3) ≡ evaluation.FunctionOfFloats)
unfolding arithmetic_definitions
base_first = (refl, refl)

-- 0^0 is 1. A root above 2^32-1 of 0 is refusal 13, and this comes before the refusal 9 of a negative exponent.
zero_powers :
    (value_power (rational_angle false 0 1) (rational_angle false 0 1) ≡ rational_value one)
    × (value_power (rational_angle false 0 1) (rational_angle false 1 (2 ^ 32)) ≡ evaluation.FunctionOfFloats)
    × (value_power (rational_angle false 0 1) (rational_angle true 1 (2 ^ 32)) ≡ evaluation.FunctionOfFloats)
unfolding arithmetic_definitions
zero_powers = (refl, refl, refl)

-- No root is taken of a power that is exactly 1, however large the root.
one_powers : (value_power (rational_angle false 1 1) (rational_angle false 1 (2 ^ 62)) ≡ rational_value one) × (value_power (rational_angle true 1 1) (rational_angle false 2 3) ≡ rational_value one)
unfolding arithmetic_definitions
one_powers = (refl, refl)

-- The sines that the table has, and sin(pi), which is a function of floats.
sines :
    (sine (pi_times false 1 6) ≡ rational_value half)
    × (sine (pi_times false 5 6) ≡ rational_value half)
    × (sine (pi_times false 7 6) ≡ rational_value (ratio true 1 2))
    × (sine (pi_times true 1 2) ≡ rational_value (ratio true 1 1))
    × (sine (pi_times false 1 1) ≡ evaluation.FunctionOfFloats)
    × (sine (pi_times true 4 1) ≡ rational_value zero_fraction)
unfolding arithmetic_definitions
sines = (refl, refl, refl, refl, refl, refl)
