-- What the definitions of fractions give is in lowest terms and in range.
use mathlib.Core.Path.{◌≡◌, refl, sym, ◌∙◌, subst}
use mathlib.Core.Bool.{Bool, true, false, not, ◌&&◌, cond}
use Prim.Native.Nat.{ℕ, zero, suc, ◌*◌, ◌/◌, ◌%◌, ◌<◌, ◌^◌}
use native.Mathlib.Nat.{mul-pos, div-le_self, lt_of_le_of_lt, mul-div_cancel', one-le-pow, mod-lt, le_of_lt}
use native.Mathlib.Omega.{arith}
use lib.Dec.{ltb, eqb}
use borrow.Author.Tests.{ltb-true}
use Rattle.rational.specs.Gcd.{gcd}
use Rattle.rational.specs.Rational.{LowestTerms, magnitude_in_range, reduced, checked, unlike, sum_magnitude, sum_sign, common_denominator, all_in_range, fraction_sum, opposite, difference, product, reciprocal, quotient, power, fractional_part}
use Rattle.rational.specs.Promise.{SoundOption, ChecksTo}
use Rattle.rational.specs.declared.Rational64.{Rational64}
use Rattle.std.specs.Prelude.{Option, Some, None}
use Rattle.rational.proofs.GcdLaws.{gcd_dvd_right, gcd_reduced, gcd_comm, gcd_step, pos_factor}
use Rattle.rational.proofs.SumLaws.{common_pos}

-- ---- a promise from its equation
pub checks_to : {defined result : Option Rational64} → result ≡ defined → SoundOption defined → ChecksTo defined result
checks_to e s = record { is = e; sound = subst SoundOption (sym e) s }

-- ---- a fraction that is tested, or none
pub tested : (b : Bool) (x : Rational64) → (b ≡ true → LowestTerms x) → SoundOption (cond b (Some x) None)
tested true x h = h refl
tested false x h = tt

pub both_true : (a b : Bool) → (a && b) ≡ true → (a ≡ true) × (b ≡ true)
both_true true b e = (refl, e)
both_true false b e = absurd (let q : ◌≡◌ {A = ℕ} 0 1 = cc in omega arith)

-- ---- zero has no sign
pub zero_unsigned_of : (s : Bool) (n : ℕ) → n ≡ 0 → (s && ltb 0 n) ≡ false
zero_unsigned_of s n e = rw e (falls s)
  where
    falls : (s : Bool) → (s && false) ≡ false
    falls true = refl
    falls false = refl

-- A fraction that has a sign is not zero.
pub nonzero : {x : Rational64} → LowestTerms x → x.negative ≡ true → 0 < x.numer
nonzero {x} l e = go x.numer l.zero_unsigned
  where
    go : (n : ℕ) → (n ≡ 0 → x.negative ≡ false) → 0 < n
    go zero h = absurd (let q : x.negative ≡ false = h refl in let z : ◌≡◌ {A = ℕ} 0 1 = cc in omega arith)
    go (suc n) h = omega arith

-- ---- reduced fractions
reduced_lowest : (s : Bool) (n d : ℕ) → 0 < d → n / gcd n d < 2 ^ 63 → d / gcd n d < 2 ^ 63 → LowestTerms (reduced s n d)
reduced_lowest s n d p hn hd = record {
  positive = pos_factor (gcd n d) (d / gcd n d) (subst (λ (z : ℕ). 0 < z) (sym (mul-div_cancel' (gcd n d) (gcd_dvd_right n d))) p);
  numer_fits = hn;
  denom_fits = hd;
  coprime = gcd_reduced n d p;
  zero_unsigned = zero_unsigned_of s (n / gcd n d);
}

checked_sound : (s : Bool) (n d : ℕ) → 0 < d → SoundOption (checked (reduced s n d))
checked_sound s n d p =
    tested (magnitude_in_range (n / gcd n d) && magnitude_in_range (d / gcd n d)) (reduced s n d)
    (λ e. let t = both_true (magnitude_in_range (n / gcd n d)) (magnitude_in_range (d / gcd n d)) e in reduced_lowest s n d p (ltb-true _ _ t.0) (ltb-true _ _ t.1))

pub product_sound : (x y : Rational64) → LowestTerms x → LowestTerms y → SoundOption (product x y)
unfolding product
product_sound x y p q = checked_sound (unlike x.negative y.negative) (x.numer * y.numer) (x.denom * y.denom) (mul-pos p.positive q.positive)

pub power_sound : (x : Rational64) (k : ℕ) → LowestTerms x → SoundOption (power x k)
unfolding power
power_sound x k p = checked_sound (x.negative && eqb (k % 2) 1) (x.numer ^ k) (x.denom ^ k) (one-le-pow k x.denom p.positive)

pub sum_sound : (x y : Rational64) → LowestTerms x → LowestTerms y → SoundOption (fraction_sum x y)
unfolding fraction_sum
sum_sound x y px py =
    let l = common_denominator x.denom y.denom in
    let p = l / x.denom * x.numer in
    let q = l / y.denom * y.numer in
    let m = sum_magnitude (unlike x.negative y.negative) p q in
    let s = sum_sign x.negative p y.negative q in
    tested (all_in_range l p q m) (reduced s m l)
    (λ e.
    let t = both_true (magnitude_in_range l) (magnitude_in_range p && (magnitude_in_range q && magnitude_in_range m)) e in
    let u = both_true (magnitude_in_range q) (magnitude_in_range m) (both_true (magnitude_in_range p) (magnitude_in_range q && magnitude_in_range m) t.1).1 in
    reduced_lowest s m l (common_pos x.denom y.denom px.positive py.positive) (lt_of_le_of_lt (div-le_self m (gcd m l)) (ltb-true _ _ u.1)) (lt_of_le_of_lt (div-le_self l (gcd m l)) (ltb-true _ _ t.0)))

-- ---- the opposite, the reciprocal, the fraction without its whole part
pub opposite_lowest : (x : Rational64) → LowestTerms x → LowestTerms (opposite x)
opposite_lowest x l = record {
  positive = l.positive;
  numer_fits = l.numer_fits;
  denom_fits = l.denom_fits;
  coprime = l.coprime;
  zero_unsigned = zero_unsigned_of (not x.negative) x.numer;
}

pub reciprocal_lowest : (x : Rational64) → LowestTerms x → 0 < x.numer → LowestTerms (reciprocal x)
reciprocal_lowest x l h = record {
  positive = h;
  numer_fits = l.denom_fits;
  denom_fits = l.numer_fits;
  coprime = gcd_comm x.denom x.numer ∙ l.coprime;
  zero_unsigned = λ e. absurd (no e l.positive);
}
  where
    no : x.denom ≡ 0 → 0 < x.denom → ⊥
    no e p = omega arith

pub fractional_part_lowest : (x : Rational64) → LowestTerms x → LowestTerms (fractional_part x)
fractional_part_lowest x l = record {
  positive = l.positive;
  numer_fits = lt_of_le_of_lt (le_of_lt (mod-lt x.numer l.positive)) l.denom_fits;
  denom_fits = l.denom_fits;
  coprime = gcd_comm (x.numer % x.denom) x.denom ∙ sym (gcd_step x.numer x.denom l.positive) ∙ l.coprime;
  zero_unsigned = zero_unsigned_of x.negative (x.numer % x.denom);
}

-- ---- the difference and the quotient
pub difference_sound : (x y : Rational64) → LowestTerms x → LowestTerms y → SoundOption (difference x y)
unfolding difference
difference_sound x y p q = sum_sound x (opposite y) p (opposite_lowest y q)

pub quotient_sound : (x y : Rational64) → LowestTerms x → LowestTerms y → 0 < y.numer → SoundOption (quotient x y)
unfolding quotient
quotient_sound x y p q h = checked_sound (unlike x.negative y.negative) (x.numer * y.denom) (x.denom * y.numer) (mul-pos p.positive h)
