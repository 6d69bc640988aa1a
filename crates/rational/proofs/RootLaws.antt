-- `root k n` is the one r with r ^ k ≤ n < (r + 1) ^ k.
use mathlib.Core.Path.{◌≡◌, refl, sym, ◌∙◌, subst}
use mathlib.Core.Bool.{Bool, true, false, cond}
use Prim.Native.Nat.{ℕ, zero, suc, ◌+◌, ◌*◌, ◌/◌, ◌^◌, ◌≤◌, ◌<◌}
use native.Mathlib.Nat.{pow-suc, pow-zero, mul-zero, lt_irrefl, le_refl, le_trans, le_of_eq, lt_of_lt_of_le, lt_of_not-le, pow-le-pow_left, one-le-pow, div-mul-le_self, lt-div-mul-add, zero-lt-suc, le_of_suc-le-suc, le_antisymm, div-lt_self, pow-le-pow_right, mul-le-mul_left}
use native.Mathlib.Omega.{arith}
use lib.Dec.{leb}
use lib.Pow.{pow_pos, pow-lt}
use borrow.Author.Tests.{leb-true, leb-false}
use Rattle.rational.specs.Root.{root_digits, root}

pub pow_of_product : (a b k : ℕ) → (a * b) ^ k ≡ a ^ k * b ^ k
pow_of_product a b zero = simp pow-zero
pow_of_product a b (suc k) = rw (pow-suc (a * b), pow-suc a, pow-suc b, pow_of_product a b k) (omega arith)

abbrev pub IsRoot : ℕ → ℕ → ℕ → Type 0
IsRoot k n r = (r ^ k ≤ n) × (n < (r + 1) ^ k)

pub root_unique : (k n a b : ℕ) → IsRoot k n a → IsRoot k n b → a ≡ b
root_unique k n a b p q = le_antisymm (side a b p q) (side b a q p)
  where
    plus : (b : ℕ) → b + 1 ≡ suc b
    plus b = omega arith

    side : (a b : ℕ) → IsRoot k n a → IsRoot k n b → a ≤ b
    side a b p q = le_of_suc-le-suc (lt_of_not-le (λ (g : suc b ≤ a). lt_irrefl n (lt_of_lt_of_le q.1 (le_trans (pow-le-pow_left (subst (λ (z : ℕ). z ≤ a) (sym (plus b)) g) k) p.0))))

-- If r is the root of n / 2 ^ k, then twice r or one more is the root of n.
step : (k n r : ℕ) → IsRoot k (n / 2 ^ k) r → IsRoot k n (cond (leb ((2 * r + 1) ^ k) n) (2 * r + 1) (2 * r))
step k n r p = go (leb ((2 * r + 1) ^ k) n) refl
  where
    lo : (2 * r) ^ k ≤ n
    lo = omega (arith, pow_of_product 2 r k, mul-le-mul_left (2 ^ k) p.0, div-mul-le_self n (2 ^ k))

    hi : n < (2 * r + 1 + 1) ^ k
    hi =
        let e : 2 * (r + 1) ≡ 2 * r + 1 + 1 = omega arith in
        omega (arith, lt-div-mul-add {a = n} (pow_pos k), mul-le-mul_left (2 ^ k) p.1, subst (λ (z : ℕ). z ^ k ≡ 2 ^ k * (r + 1) ^ k) e (pow_of_product 2 (r + 1) k))

    go : (b : Bool) → leb ((2 * r + 1) ^ k) n ≡ b → IsRoot k n (cond b (2 * r + 1) (2 * r))
    go true e = (leb-true ((2 * r + 1) ^ k) n e, hi)
    go false e = (lo, leb-false ((2 * r + 1) ^ k) n e)

digits_is : (f k n : ℕ) → n ≤ f → IsRoot (suc k) n (root_digits f (suc k) n)
unfolding root_digits
digits_is zero k n h = let e : n ≡ 0 = omega arith in rw e (none k)
  where
    none : (k : ℕ) → IsRoot (suc k) 0 0
    none k = (le_of_eq (pow-suc 0 k ∙ mul-zero (0 ^ k)), one-le-pow (suc k) 1 (zero-lt-suc 0))
digits_is (suc f) k zero h = (le_of_eq (pow-suc 0 k ∙ mul-zero (0 ^ k)), one-le-pow (suc k) 1 (zero-lt-suc 0))
digits_is (suc f) k (suc n) h =
    step (suc k) (suc n) (root_digits f (suc k) (suc n / 2 ^ suc k)) (digits_is f k (suc n / 2 ^ suc k) (fall (suc n / 2 ^ suc k) n f h (div-lt_self (zero-lt-suc n) (pow-lt {i = 0} (zero-lt-suc k)))))
  where
    fall : (x n f : ℕ) → suc n ≤ suc f → x < suc n → x ≤ f
    fall x n f p q = omega arith

pub root_is : (k n : ℕ) → 0 < k → IsRoot k n (root k n)
unfolding root
root_is zero n h = absurd (lt_irrefl 0 h)
root_is (suc k) n h = digits_is n k n (le_refl n)

-- ---- where the search for a root starts
pub root_below : (k n : ℕ) → 1 < k → n < 2 ^ 63 → n < (2 ^ 32) ^ k
root_below k n h l = lt_of_lt_of_le (room n l) (pow-le-pow_right {n = 2 ^ 32} (omega arith) {i = 2} h)
  where
    room : (n : ℕ) → n < 2 ^ 63 → n < 2 ^ 64
    room n l = omega arith

pub zero_power : (k n : ℕ) → 0 < k → 0 ^ k ≤ n
zero_power zero n h = absurd (no h)
  where
    no : 0 < 0 → ⊥
    no h = omega arith
zero_power (suc k) n h = rw (pow-suc 0 k ∙ mul-zero (0 ^ k)) (omega arith)
