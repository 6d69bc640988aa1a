-- Negation turns the sign of both parts and never refuses.
use mathlib.Core.Path.{◌≡◌, refl}
use mathlib.Core.Bool.{true}
use Rattle.rational.specs.Gcd.{gcd, euclid}
use Rattle.rational.specs.Rational.{opposite, product}
use Rattle.std.specs.Prelude.{Some}
use Rattle.rational.proofs.LowestTermsLaws.{opposite_lowest}
use Rattle.rational.proofs.ReducedLaws.{sum_zero, product_zero, product_minus}
use Rattle.value.specs.Value.{Sound, value, zero_fraction, pi_squared, value_product, negation}
use Rattle.value.specs.declared.Value.{Value}
use Rattle.value.specs.declared.Evaluation.TheVariants as evaluation
use Rattle.value.proofs.SoundLaws.{zero_lowest, one_lowest}

nothing_times : product zero_fraction pi_squared ≡ Some zero_fraction
unfolding product gcd euclid
nothing_times = refl

pub negation_is : (x : Value) → Sound x → negation x ≡ evaluation.Value (value (opposite x.a) (opposite x.b))
unfolding negation value_product
negation_is x p =
    rw (product_zero x.b p.pi_part zero_lowest, product_zero x.a p.rational_part zero_lowest, product_minus x.a p.rational_part (one_lowest true), product_minus x.b p.pi_part (one_lowest true))
    (rw (nothing_times, sum_zero (opposite x.a) (opposite_lowest x.a p.rational_part), sum_zero (opposite x.b) (opposite_lowest x.b p.pi_part)))
