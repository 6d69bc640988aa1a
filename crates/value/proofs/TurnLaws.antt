-- The whole multiples of pi: an odd one is half a turn beside whole turns, an even one is whole turns alone.
use mathlib.Core.Path.{◌≡◌, refl}
use mathlib.Core.Bool.{Bool, true, false, ◌&&◌}
use Prim.Native.Nat.{ℕ, zero, suc, ◌*◌, ◌/◌, ◌%◌, ◌^◌, ◌<◌}
use native.Mathlib.Nat.{zero-lt-suc}
use native.Mathlib.Omega.{arith}
use lib.Dec.{ltb, lit<}
use borrow.Author.Tests.{lt-ltb}
use Rattle.rational.specs.Gcd.{gcd, euclid}
use Rattle.rational.specs.Rational.{LowestTerms, ratio, unlike, fraction_sum, product, quotient, and_then_option}
use Rattle.std.specs.Prelude.{Some}
use Rattle.rational.proofs.LowestTermsLaws.{zero_unsigned_of}
use Rattle.rational.proofs.ReducedLaws.{quotient_found}
use Rattle.float.proofs.PowerOfTwoLaws.{gcd_one, odd_power}
use Rattle.value.specs.Value.{zero_fraction, one, two, wrapped, turn}

signs : (s : Bool) (n m : ℕ) → (n ≡ 0 → m ≡ 0) → (unlike (s && ltb 0 n) false && ltb 0 m) ≡ (s && ltb 0 m)
signs true zero m h = rw (h refl) refl
signs true (suc n) m h = rw (lt-ltb 0 (suc n) (zero-lt-suc n)) refl
signs false n m h = refl

ratio_lowest : (s : Bool) (n d : ℕ) → gcd n d ≡ 1 → 0 < d → n < 2 ^ 63 → d < 2 ^ 63 → LowestTerms (ratio s n d)
ratio_lowest s n d c p hn hd = record { positive = p; numer_fits = hn; denom_fits = hd; coprime = c; zero_unsigned = zero_unsigned_of s n }

module _ (s : Bool) (n : ℕ) (small : n < 2 ^ 63) where
  whole : LowestTerms (ratio s n 1)
  whole = ratio_lowest s n 1 (gcd_one n) (lit< tt) small (lit< tt)

  half_odd : n % 2 ≡ 1 → quotient (ratio s n 1) two ≡ Some (ratio s n 2)
  half_odd e = quotient_found (ratio s n 1) two (ratio s n 2) whole (lit< tt) (ratio_lowest s n 2 (odd_power n 1 e) (lit< tt) small (lit< tt)) (even n) (signs s n n (λ z. z))
    where
      even : (n : ℕ) → n * (1 * 2) ≡ n * 1 * 2
      even n = omega arith

  half_even : n % 2 ≡ 0 → quotient (ratio s n 1) two ≡ Some (ratio s (n / 2) 1)
  half_even e = quotient_found (ratio s n 1) two (ratio s (n / 2) 1) whole (lit< tt) (ratio_lowest s (n / 2) 1 (gcd_one (n / 2)) (lit< tt) (less n small) (lit< tt)) (same n e) (signs s n (n / 2) (none n))
    where
      less : (n : ℕ) → n < 2 ^ 63 → n / 2 < 2 ^ 63
      less n h = omega arith

      same : (n : ℕ) → n % 2 ≡ 0 → n / 2 * (1 * 2) ≡ n * 1 * 1
      same n e = omega arith

      none : (n : ℕ) → n ≡ 0 → n / 2 ≡ 0
      none n e = omega arith

  after_odd : (t : Bool) → and_then_option (product (ratio t 1 2) two) wrapped ≡ Some one
  unfolding product fraction_sum gcd euclid
  after_odd true = refl
  after_odd false = refl

  after_even : (t : Bool) → and_then_option (product (ratio t 0 1) two) wrapped ≡ Some zero_fraction
  unfolding product fraction_sum gcd euclid
  after_even true = refl
  after_even false = refl

  -- An odd multiple of pi is half a turn beside whole turns.
  pub turn_odd : n % 2 ≡ 1 → turn (ratio s n 1) ≡ Some one
  unfolding turn
  turn_odd e = rw (half_odd e) (rw e (after_odd (s && ltb 0 n)))

  -- An even multiple of pi is a number of whole turns.
  pub turn_even : n % 2 ≡ 0 → turn (ratio s n 1) ≡ Some zero_fraction
  unfolding turn
  turn_even e = rw (half_even e) (rw (rest (n / 2)) (after_even (s && ltb 0 (n / 2))))
    where
      rest : (m : ℕ) → m % 1 ≡ 0
      rest m = omega arith
