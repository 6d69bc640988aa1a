-- Whole numbers up to 2 ^ 24 pass through a division by 1 and a sum with +0 unchanged; a negative number's float is the float of its size, negated.
use mathlib.Core.Path.{◌≡◌, refl, sym, ap, ◌∙◌, subst}
use mathlib.Core.Bool.{Bool, true, false, not, cond, ◌&&◌}
use Prim.Native.Nat.{ℕ, zero, suc, ◌+◌, ◌-◌, ◌*◌, ◌/◌, ◌%◌, ◌^◌, ◌≤◌, ◌<◌, compare}
use native.Mathlib.Nat.{mul-one, one-mul, zero-mul, mul-pos, zero-lt-suc, lt_irrefl}
use native.Mathlib.Omega.{arith}
use lib.Dec.{ltb}
use borrow.Author.Tests.{lt-ltb, le-ltb, ltb-true}
use lib.IntN.{pos, neg_ℤ}
use lib.Ieee.{Float, nan, inf, fin, Format, prec, emax, low, up, down, unlike, size, nearest, odd, units, round, of_int, add, sum, div, neg}
use lib.Ieee.Fits.{down_pos}
use lib.Ieee.Exact.{HasValue}
use lib.Ieee.Back.{round_whole}
use lib.Ieee.Scale.{round_same}

-- ---- the sign of a rounded number
neg_cond : (b : Bool) (x y : Float) → neg (cond b x y) ≡ cond b (neg x) (neg y)
neg_cond true x y = refl
neg_cond false x y = refl

neg_odd : (d : ℕ) (s : Bool) (q k l : ℕ) → neg (odd d s q k l) ≡ odd d (not s) q k l
unfolding odd neg
neg_odd d s zero k l = refl
neg_odd d s (suc q) k l = refl

neg_units : (f : Format) (s : Bool) (q k : ℕ) → neg (units f s q k) ≡ units f (not s) q k
unfolding units neg
neg_units f s q k =
    let b = ltb (q * 2 ^ k) (2 ^ (low f + suc (emax f))) in
    neg_cond b (odd (suc (prec f)) s q k (low f)) (inf s) ∙ ap (λ (z : Float). cond b z (neg (inf s))) (neg_odd (suc (prec f)) s q k (low f)) ∙ ap (λ (z : Float). cond b (odd (suc (prec f)) (not s) q k (low f)) z) (neg_inf s)
  where
    neg_inf : (s : Bool) → neg (inf s) ≡ inf (not s)
    neg_inf s = refl

pub neg_round : (f : Format) (s : Bool) (a c : ℕ) → neg (round f s a c) ≡ round f (not s) a c
unfolding round
neg_round f s a c =
    let n = a * 2 ^ low f in
    let k = size (n / c) - prec f in
    let u = c * 2 ^ k in
    neg_units f s (nearest (n / u) (compare (n % u * 2) u)) k

pub neg_of_int : (f : Format) (n : ℕ) → 0 < n → neg (of_int f (pos n)) ≡ of_int f (neg_ℤ (pos n))
unfolding of_int
neg_of_int f zero h = absurd (lt_irrefl 0 h)
neg_of_int f (suc n) h = neg_round f false (suc n) 1

-- ---- divided by 1
pub div_one : (f : Format) (s : Bool) (n : ℕ) → n ≤ 2 ^ prec f → div f (round f s n 1) (fin false 1 (pos 0)) ≡ round f s n 1
unfolding div
div_one f s n h = go (round f s n 1) (round_whole f s n h)
  where
    ratio : (t : Bool) → unlike t false ≡ t
    ratio true = refl
    ratio false = refl

    go : (x : Float) → HasValue x s n 1 → div f x (fin false 1 (pos 0)) ≡ round f s n 1
    go nan v = absurd v
    go (inf t) v = absurd v
    go (fin t m e) v =
        ap (λ (z : Bool). round f z (m * up e * 1) (1 * 1 * down e)) (ratio t ∙ v.0)
        ∙ round_same f s (m * up e * 1) (1 * 1 * down e) n 1 (subst (λ (z : ℕ). 0 < z) (sym (one-mul (down e))) (down_pos e)) (zero-lt-suc 0) (omega (arith, v.1))

-- ---- with +0 added
pub add_zero : (f : Format) (s : Bool) (n : ℕ) → n ≤ 2 ^ prec f → s ≡ (s && ltb 0 n) → add f (round f s n 1) (fin false 0 (pos 0)) ≡ round f s n 1
unfolding add sum
add_zero f s n h z = go (round f s n 1) (round_whole f s n h)
  where
    same : (m u d n : ℕ) → m * u * 1 ≡ n * d → (m * u * 1 - 0 * d) * 1 ≡ n * (d * 1)
    same m u d n e = omega (arith, zero-mul d)

    go : (x : Float) → HasValue x s n 1 → add f x (fin false 0 (pos 0)) ≡ round f s n 1
    go nan v = absurd v
    go (inf t) v = absurd v
    go (fin false m e) v =
        round_same f false (m * up e * 1 + 0 * down e) (down e * 1) n 1 (subst (λ (z : ℕ). 0 < z) (sym (mul-one (down e))) (down_pos e)) (zero-lt-suc 0) (omega (arith, v.1))
        ∙ ap (λ (b : Bool). round f b n 1) v.0
    go (fin true m e) v =
        let np : 0 < n = ltb-true 0 n (sym (subst (λ (b : Bool). b ≡ (b && ltb 0 n)) (sym v.0) z)) in
        let ap' : 0 < m * up e * 1 = subst (λ (w : ℕ). 0 < w) (sym v.1) (mul-pos np (down_pos e)) in
        let a = m * up e * 1 in
        let b = 0 * down e in
        let lo : ltb a b ≡ false = le-ltb a b (omega (arith, zero-mul (down e))) in
        let hi : ltb b a ≡ true = lt-ltb b a (omega (arith, zero-mul (down e))) in
        ap (λ (w : Bool). cond w (round f false (b - a) (down e * 1)) (round f (true && ltb b a) (a - b) (down e * 1))) lo
        ∙ ap (λ (w : Bool). round f w (a - b) (down e * 1)) hi
        ∙ round_same f true (a - b) (down e * 1) n 1 (subst (λ (z : ℕ). 0 < z) (sym (mul-one (down e))) (down_pos e)) (zero-lt-suc 0) (same m (up e) (down e) n v.1)
        ∙ ap (λ (w : Bool). round f w n 1) v.0
