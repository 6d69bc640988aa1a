-- A product and a power whose parts are capped are the product and the power, capped once.
use mathlib.Core.Path.{◌≡◌, refl, ◌∙◌}
use Prim.Native.Nat.{ℕ, zero, suc, ◌-◌, ◌*◌, ◌^◌, ◌≤◌, min}
use native.Mathlib.Nat.{zero-mul, mul-le-mul_left, pow-suc, mul-zero, mul-one, pow-le-pow_left, pow-le-pow_right}
use native.Mathlib.Omega.{arith}

-- ---- a product
-- A factor of a product that is capped may be capped before.
pub min_mul : (m x H : ℕ) → min (m * min x H) H ≡ min (m * x) H
min_mul zero x H = rw (zero-mul (min x H), zero-mul x)
min_mul (suc m) x H = let p : m * min x H ≤ m * x = mul-le-mul_left m (omega arith) in go (x - H) refl
  where
    go : (d : ℕ) → x - H ≡ d → min (suc m * min x H) H ≡ min (suc m * x) H
    go zero e = let q : min x H ≡ x = omega arith in rw q
    go (suc d) e = let q : min x H ≡ H = omega arith in rw q (omega arith)

-- ---- a power
zero_or_one : (b k : ℕ) → b ≤ 1 → b ^ suc k ≡ b
zero_or_one zero k h = pow-suc 0 k ∙ mul-zero (0 ^ k)
zero_or_one (suc zero) zero h = refl
zero_or_one (suc zero) (suc k) h = pow-suc 1 (suc k) ∙ mul-one (1 ^ suc k) ∙ zero_or_one 1 k h
zero_or_one (suc (suc b)) k h = absurd (no h)
  where
    no : suc (suc b) ≤ 1 → ⊥
    no h = omega arith

pub power_small : (b k : ℕ) → (k ≡ 0 → ⊥) → b ≤ 1 → b ≡ min (b ^ k) (2 ^ 63)
power_small b zero n h = absurd (n refl)
power_small b (suc k) n h = rw (zero_or_one b k h) (omega arith)

-- The exponent of a power that is capped may be capped at 63, and the power at 2^64 - 1 before.
pub power_capped : (b k : ℕ) → min (min (b ^ min k 63) (2 ^ 64 - 1)) (2 ^ 63) ≡ min (b ^ k) (2 ^ 63)
power_capped b k = go (k - 63) (b - 1) refl refl
  where
    go : (d e : ℕ) → k - 63 ≡ d → b - 1 ≡ e → min (min (b ^ min k 63) (2 ^ 64 - 1)) (2 ^ 63) ≡ min (b ^ k) (2 ^ 63)
    go zero e p q = let m : min k 63 ≡ k = omega arith in rw m (omega arith)
    go (suc d) zero p q = let m : min k 63 ≡ 63 = omega arith in rw m (omega (arith, power_small b 63 (λ e. omega arith) (omega arith), power_small b k (λ e. omega arith) (omega arith)))
    go (suc d) (suc e) p q =
        let m : min k 63 ≡ 63 = omega arith in
        let two : 2 ≤ b = omega arith in
        let low : 2 ^ 63 ≤ b ^ 63 = pow-le-pow_left two 63 in
        let high : b ^ 63 ≤ b ^ k = pow-le-pow_right (omega arith) (omega arith) in
        rw m (omega arith)
