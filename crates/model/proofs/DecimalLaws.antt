-- A number in decimal is one digit, or a number in decimal and a digit, and a word has at most 20 digits.
use Prim.Native.Nat.{ℕ, zero, suc, ◌+◌, ◌/◌, ◌%◌, ◌^◌, ◌≤◌, ◌<◌}
use native.Mathlib.Nat.{not-suc-le-zero, div-lt_iff_lt-mul, pow-suc}
use native.Mathlib.Omega.{arith}
use mathlib.Core.Path.{◌≡◌, refl, ap}
use mathlib.Core.Bool.{Bool, true, false, cond}
use mathlib.Core.List.{List, [], ◌∷◌, ◌++◌}
use borrow.Author.Tests.{lt-ltb, le-ltb, ltb-false}
use lib.Dec.{ltb}
use lib.ListN.{length, length-append}
use Rattle.model.specs.Listing.{digits, decimal}

-- more digits than the number are as good as others
digits_enough : (j k n : ℕ) → n < j → n < k → digits j n ≡ digits k n
unfolding digits
digits_enough zero k n h i = absurd (not-suc-le-zero h)
digits_enough (suc j) zero n h i = absurd (not-suc-le-zero i)
digits_enough (suc j) (suc k) n h i = go (ltb n 10) refl (λ p. digits_enough j k (n / 10) (omega arith) (omega arith))
  where
    go : (b : Bool) → ltb n 10 ≡ b → (10 ≤ n → digits j (n / 10) ≡ digits k (n / 10))
        → cond b ((48 + n) ∷ []) (digits j (n / 10) ++ (48 + n % 10) ∷ []) ≡ cond b ((48 + n) ∷ []) (digits k (n / 10) ++ (48 + n % 10) ∷ [])
    go true e f = refl
    go false e f = ap (λ (l : List ℕ). l ++ (48 + n % 10) ∷ []) (f (ltb-false n 10 e))

pub decimal_one : (n : ℕ) → n < 10 → decimal n ≡ (48 + n) ∷ []
unfolding decimal digits
decimal_one n h = rw (lt-ltb n 10 h) refl

pub decimal_more : (n : ℕ) → 10 ≤ n → decimal n ≡ decimal (n / 10) ++ (48 + n % 10) ∷ []
unfolding decimal digits
decimal_more n h = rw (le-ltb n 10 h) (ap (λ (l : List ℕ). l ++ (48 + n % 10) ∷ []) (digits_enough n (suc (n / 10)) (n / 10) (omega arith) (omega arith)))

-- a number below a power of ten
pub digits_few : (k d n : ℕ) → n < 10 ^ suc d → length (digits k n) ≤ suc d
unfolding digits
digits_few zero d n h = omega arith
digits_few (suc k) d n h = go (λ e m. digits_few k e m) (ltb n 10) refl d h
  where
    go : ((d m : ℕ) → m < 10 ^ suc d → length (digits k m) ≤ suc d) → (b : Bool) → ltb n 10 ≡ b → (d : ℕ) → n < 10 ^ suc d
        → length (cond b ((48 + n) ∷ []) (digits k (n / 10) ++ (48 + n % 10) ∷ [])) ≤ suc d
    go f true e d p = omega arith
    go f false e zero p = absurd (omega (arith, ltb-false n 10 e))
    go f false e (suc d) p =
        let q : n / 10 < 10 ^ suc d = (div-lt_iff_lt-mul {k = 10} {x = n} {y = 10 ^ suc d} (omega arith)).1 (omega (arith, pow-suc 10 (suc d))) in
        omega (arith, length-append (digits k (n / 10)) ((48 + n % 10) ∷ []), f d (n / 10) q)

pub decimal_short : (n : ℕ) → n < 2 ^ 64 → length (decimal n) ≤ 20
unfolding decimal
decimal_short n h = digits_few (suc n) 19 n (omega arith)
