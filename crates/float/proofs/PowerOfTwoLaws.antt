-- A capped shift is the capped power of two, and a number over a power of two is reduced once it is odd or whole.
use mathlib.Core.Path.{◌≡◌, refl, sym, ap, ◌∙◌}
use Prim.Native.Nat.{ℕ, zero, suc, ◌+◌, ◌-◌, ◌*◌, ◌/◌, ◌%◌, ◌^◌, ◌≤◌, min}
use native.Mathlib.Nat.{eq-one_of_dvd-one, mul-one, mul_assoc, pow-suc, zero-lt-suc}
use native.Mathlib.Omega.{arith}
use lib.Pow.{pow-add, pow_pos, pow_mono}
use Rattle.rational.specs.Gcd.{gcd}
use Rattle.rational.proofs.GcdLaws.{gcd_dvd_right, gcd_step, coprime_mul_right, lowest_is}

-- ---- powers that are capped at the limit
pub capped_shift : (e : ℕ) → 1 * 2 ^ min e 63 % 2 ^ 64 ≡ min (2 ^ e) (2 ^ 63)
capped_shift e = go (e - 63) refl
  where
    go : (d : ℕ) → e - 63 ≡ d → 1 * 2 ^ min e 63 % 2 ^ 64 ≡ min (2 ^ e) (2 ^ 63)
    go zero h = let m : min e 63 ≡ e = omega arith in let l : e ≤ 63 = omega arith in let p : 2 ^ e ≤ 2 ^ 63 = pow_mono l in rw m (omega arith)
    go (suc d) h = let m : min e 63 ≡ 63 = omega arith in let l : 63 ≤ e = omega arith in let p : 2 ^ 63 ≤ 2 ^ e = pow_mono l in rw m (omega arith)

-- ---- halving
pub halved : (m j : ℕ) → m % 2 ≡ 0 → m / 2 * 2 ^ (j + 1) ≡ m * 2 ^ j
halved m j e =
    let t : m / 2 * 2 ≡ m = omega arith in
    omega (arith, ap (λ (z : ℕ). m / 2 * z) (pow-add 2 j 1), ap (λ (z : ℕ). z * 2 ^ j) t)

-- ---- odd numbers
pub gcd_one : (n : ℕ) → gcd n 1 ≡ 1
gcd_one n = eq-one_of_dvd-one (gcd_dvd_right n 1)

-- An odd number and a power of two have no common divisor.
odd_two : (m : ℕ) → m % 2 ≡ 1 → gcd m 2 ≡ 1
odd_two m e = gcd_step m 2 (zero-lt-suc 1) ∙ ap (gcd 2) e ∙ gcd_one 2

pub odd_power : (m j : ℕ) → m % 2 ≡ 1 → gcd m (2 ^ j) ≡ 1
odd_power m zero e = gcd_one m
odd_power m (suc j) e = ap (gcd m) (pow-suc 2 j) ∙ coprime_mul_right m (2 ^ j) 2 (odd_power m j e) (odd_two m e)

-- ---- m * 2 ^ j over 2 ^ l in reduced terms
pub low_odd : (a m j l : ℕ) → m % 2 ≡ 1 → j ≤ l → m * 2 ^ j ≡ a → (a / gcd a (2 ^ l) ≡ m) × (2 ^ l / gcd a (2 ^ l) ≡ 2 ^ (l - j))
low_odd a m j l o h e = lowest_is a (2 ^ l) m (2 ^ (l - j)) (pow_pos l) (odd_power m (l - j) o)
    (ap (λ (z : ℕ). m * 2 ^ z) (join l j h) ∙ ap (λ (z : ℕ). m * z) (pow-add 2 j (l - j)) ∙ sym (mul_assoc m (2 ^ j) (2 ^ (l - j))) ∙ ap (λ (z : ℕ). z * 2 ^ (l - j)) e)
  where
    join : (l j : ℕ) → j ≤ l → l ≡ j + (l - j)
    join l j h = omega arith

pub low_whole : (a m j l : ℕ) → l ≤ j → m * 2 ^ j ≡ a → (a / gcd a (2 ^ l) ≡ m * 2 ^ (j - l)) × (2 ^ l / gcd a (2 ^ l) ≡ 1)
low_whole a m j l h e = lowest_is a (2 ^ l) (m * 2 ^ (j - l)) 1 (pow_pos l) (gcd_one (m * 2 ^ (j - l)))
    (mul_assoc m (2 ^ (j - l)) (2 ^ l) ∙ ap (λ (z : ℕ). m * z) (sym (pow-add 2 (j - l) l)) ∙ ap (λ (z : ℕ). m * 2 ^ z) (join l j h) ∙ e ∙ sym (mul-one a))
  where
    join : (l j : ℕ) → l ≤ j → j - l + l ≡ j
    join l j h = omega arith
