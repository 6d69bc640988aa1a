-- `approximate_float` gives the exact value of a finite f32: the fields of its bits are that value.
use mathlib.Core.Path.{◌≡◌, sym, ◌∙◌, subst}
use mathlib.Core.Bool.{Bool, true}
use lib.Dec.{T}
use native.Mathlib.Omega.{arith}
use Rattle.rational.proofs.LowestTermsLaws.{checks_to}
use Rattle.float.proofs.ApproximateFloatLaws.{float_sound}
use Rattle.float.proofs.OfBitsLaws.{exact_subnormal, exact_normal, exact_special}
use Rattle.float.proofs.approximate_float.Goals as goal

fit : {b : Bool} → b ≡ true → T b
fit e = subst T (sym e) tt

pub returns-in-0 : goal.returns-in-0
returns-in-0 c = let h = fit c.well_formed.0.1 in
    let e = c.f32_to_bits_with_nan-word.ensures in
    checks_to (c.dyadic_rational.ensures ∙ rw e (exact_subnormal _ h (rw e at c.in-0.is))) (float_sound _ h)

pub returns-in-255 : goal.returns-in-255
returns-in-255 c = record { is = sym (exact_special _ (fit c.well_formed.0.1) (rw c.f32_to_bits_with_nan-word.ensures at c.in-255.is)); sound = tt }

pub returns-in_default : goal.returns-in_default
returns-in_default c = let h = fit c.well_formed.0.1 in
    let e = c.f32_to_bits_with_nan-word.ensures in
    checks_to (c.dyadic_rational-in_default.ensures ∙ rw e (exact_normal _ h _ (omega arith) (omega arith))) (float_sound _ h)
