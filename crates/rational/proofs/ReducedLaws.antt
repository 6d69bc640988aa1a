-- Where a fraction has the value of a product, a quotient or a power, the definition gives that fraction: it overflows only where no fraction has the value.
use mathlib.Core.Path.{◌≡◌, refl, sym, ap, ◌∙◌}
use mathlib.Core.Bool.{Bool, true, false, not, ◌&&◌}
use Prim.Native.Nat.{ℕ, zero, suc, ◌*◌, ◌/◌, ◌%◌, ◌^◌, ◌<◌, min, zero-le}
use native.Mathlib.Nat.{mul-pos, one-le-pow, mul-one, zero-lt-suc, div-eq_of_eq-mul_right, eq-one_of_dvd-one}
use native.Mathlib.Omega.{arith}
use lib.Dec.{ltb, eqb}
use borrow.Author.Tests.{lt-ltb, le-ltb}
use Rattle.rational.specs.Gcd.{gcd}
use Rattle.rational.specs.Rational.{LowestTerms, ratio, reduced, checked, unlike, sum_magnitude, sum_sign, common_denominator, all_in_range, opposite, fraction_sum, product, quotient, power}
use Rattle.rational.specs.declared.Rational64.{Rational64}
use Rattle.std.specs.Prelude.{Some}
use Rattle.rational.proofs.GcdLaws.{gcd_dvd_right, lowest_is}
use Rattle.rational.proofs.SumLaws.{sum_is}
use Rattle.rational.proofs.LowestTermsLaws.{opposite_lowest}

-- If ±n/d has the value of a fraction r, it comes to r.
pub reduced_exact : (s : Bool) (n d : ℕ) (r : Rational64) → 0 < d → LowestTerms r → r.numer * d ≡ n * r.denom → (s && ltb 0 r.numer) ≡ r.negative → checked (reduced s n d) ≡ Some r
reduced_exact s n d r p l e t =
    let parts = lowest_is n d r.numer r.denom p l.coprime e in
    rw (parts.0, parts.1) (rw (lt-ltb r.numer (2 ^ 63) l.numer_fits, lt-ltb r.denom (2 ^ 63) l.denom_fits) (ap (λ (b : Bool). Some (record { negative = b; numer = r.numer; denom = r.denom })) t))

pub product_found : (x y r : Rational64) → LowestTerms x → LowestTerms y → LowestTerms r
    → r.numer * (x.denom * y.denom) ≡ x.numer * y.numer * r.denom → (unlike x.negative y.negative && ltb 0 r.numer) ≡ r.negative → product x y ≡ Some r
unfolding product
product_found x y r p q l e t = reduced_exact (unlike x.negative y.negative) (x.numer * y.numer) (x.denom * y.denom) r (mul-pos p.positive q.positive) l e t

pub quotient_found : (x y r : Rational64) → LowestTerms x → 0 < y.numer → LowestTerms r
    → r.numer * (x.denom * y.numer) ≡ x.numer * y.denom * r.denom → (unlike x.negative y.negative && ltb 0 r.numer) ≡ r.negative → quotient x y ≡ Some r
unfolding quotient
quotient_found x y r p q l e t = reduced_exact (unlike x.negative y.negative) (x.numer * y.denom) (x.denom * y.numer) r (mul-pos p.positive q) l e t

pub power_found : (x r : Rational64) (k : ℕ) → LowestTerms x → LowestTerms r
    → r.numer * x.denom ^ k ≡ x.numer ^ k * r.denom → (x.negative && eqb (k % 2) 1 && ltb 0 r.numer) ≡ r.negative → power x k ≡ Some r
unfolding power
power_found x r k p l e t = reduced_exact (x.negative && eqb (k % 2) 1) (x.numer ^ k) (x.denom ^ k) r (one-le-pow k x.denom p.positive) l e t

-- ---- nothing added, nothing multiplied, and the product with -1
signed_as : (x : Rational64) → LowestTerms x → (x.negative && ltb 0 x.numer) ≡ x.negative
signed_as x l = go x.negative x.numer l.zero_unsigned
  where
    go : (s : Bool) (n : ℕ) → (n ≡ 0 → s ≡ false) → (s && ltb 0 n) ≡ s
    go false n z = refl
    go true zero z = sym (z refl)
    go true (suc n) z = lt-ltb 0 (suc n) (zero-lt-suc n)

pub sum_zero : (x : Rational64) → LowestTerms x → fraction_sum x (ratio false 0 1) ≡ Some x
sum_zero x l =
    let n = x.numer in
    let d = x.denom in
    let g : gcd d 1 ≡ 1 = unit d in
    let c : common_denominator d 1 ≡ d = rw g (plain d) in
    let o : d / d ≡ 1 = div-eq_of_eq-mul_right l.positive (sym (mul-one d)) in
    let e = lowest_is n d n d l.positive l.coprime refl in
    sym (sum_is x (ratio false 0 1) d n 0 n x.negative x.negative true (sym (rw c (uncapped d l.denom_fits))) (sym (rw o (once n l.numer_fits))) (nought d) (even x.negative) (size x.negative n l.numer_fits) (sign x.negative n) (tests d n l.denom_fits l.numer_fits))
    ∙ rw (e.0, e.1) (ap (λ (b : Bool). Some (record { negative = b; numer = n; denom = d })) (signed_as x l))
  where
    unit : (d : ℕ) → gcd d 1 ≡ 1
    unit d = eq-one_of_dvd-one (gcd_dvd_right d 1)

    plain : (d : ℕ) → d / 1 * 1 ≡ d
    plain d = omega arith

    uncapped : (d : ℕ) → d < 2 ^ 63 → min d (2 ^ 63) ≡ d
    uncapped d h = omega arith

    once : (n : ℕ) → n < 2 ^ 63 → min (1 * n) (2 ^ 63) ≡ n
    once n h = omega arith

    nought : (d : ℕ) → 0 ≡ min (d / 1 * 0) (2 ^ 63)
    nought d = omega arith

    even : (s : Bool) → s ≡ unlike s false
    even true = refl
    even false = refl

    size : (s : Bool) (n : ℕ) → n < 2 ^ 63 → n ≡ min (sum_magnitude s n 0) (2 ^ 63)
    size true n h = omega arith
    size false n h = omega arith

    sign : (s : Bool) (n : ℕ) → s ≡ sum_sign s n false 0
    sign s n = sym (rw (le-ltb n 0 zero-le))

    tests : (d n : ℕ) → d < 2 ^ 63 → n < 2 ^ 63 → true ≡ all_in_range d n 0 n
    tests d n hd hn = sym (rw (lt-ltb d (2 ^ 63) hd, lt-ltb n (2 ^ 63) hn) refl)

pub product_zero : (x : Rational64) → LowestTerms x → LowestTerms (ratio false 0 1) → product x (ratio false 0 1) ≡ Some (ratio false 0 1)
product_zero x l z = product_found x (ratio false 0 1) (ratio false 0 1) l z z (nought x.numer x.denom) (unsigned (unlike x.negative false))
  where
    nought : (n d : ℕ) → 0 * (d * 1) ≡ n * 0 * 1
    nought n d = omega arith

    unsigned : (b : Bool) → (b && ltb 0 0) ≡ false
    unsigned true = refl
    unsigned false = refl

pub product_minus : (x : Rational64) → LowestTerms x → LowestTerms (ratio true 1 1) → product x (ratio true 1 1) ≡ Some (opposite x)
product_minus x l m = product_found x (ratio true 1 1) (opposite x) l m (opposite_lowest x l) (same x.numer x.denom) (turned x.negative)
  where
    same : (n d : ℕ) → n * (d * 1) ≡ n * 1 * d
    same n d = omega arith

    turned : (s : Bool) → (unlike s true && ltb 0 x.numer) ≡ (not s && ltb 0 x.numer)
    turned true = refl
    turned false = refl
