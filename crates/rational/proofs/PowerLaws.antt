-- The power whose parts are capped at the limit is the definition's power, since a power of a fraction in reduced terms is in reduced terms.
use mathlib.Core.Path.{◌≡◌, refl, sym, ◌∙◌}
use mathlib.Core.Bool.{◌&&◌}
use Prim.Native.Nat.{ℕ, ◌%◌, ◌^◌, min}
use native.Mathlib.Nat.{one-le-pow}
use lib.Dec.{eqb}
use Rattle.rational.proofs.GcdLaws.{coprime_pow, lowest_is}
use Rattle.rational.specs.declared.Rational64.{Rational64}
use Rattle.rational.specs.Rational.{LowestTerms, ratio, checked, power}
use Rattle.rational.proofs.ProductLaws.{checked_min}

pub power_is : (f : Rational64) (k : ℕ) → LowestTerms f → checked (ratio (f.negative && eqb (k % 2) 1) (min (f.numer ^ k) (2 ^ 63)) (min (f.denom ^ k) (2 ^ 63))) ≡ power f k
unfolding power
power_is f k g =
    let e = lowest_is (f.numer ^ k) (f.denom ^ k) (f.numer ^ k) (f.denom ^ k) (one-le-pow k f.denom g.positive) (coprime_pow f.numer f.denom k g.coprime) refl in
    checked_min (f.negative && eqb (k % 2) 1) (f.numer ^ k) (f.denom ^ k) ∙ sym (rw (e.0, e.1))
