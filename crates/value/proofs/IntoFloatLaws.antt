-- "A whole number below 2^24 in size, with b zero, comes out exactly" of `into_float`.
use mathlib.Core.Path.{◌≡◌, refl, sym, ap, ◌∙◌, subst}
use mathlib.Core.Bool.{Bool, true, false, ◌&&◌}
use Prim.Native.Nat.{ℕ, zero, suc, ◌≤◌, ◌<◌, ◌^◌}
use native.Mathlib.Nat.{le_of_lt}
use lib.Dec.{ltb}
use lib.IntN.{pos}
use lib.Count.{count_trailing_zeros}
use lib.Ieee.{Float, fin, binary32, of_int, of_bits, of_fields, odd, round, units, size, span, climb, add, mul, div}
use lib.Ieee.Exact.{HasValue}
use lib.Ieee.Back.{round_whole}
use Rattle.rational.specs.Rational.{signed_integer, ratio}
use Rattle.rational.proofs.LowestTermsLaws.{zero_unsigned_of}
use Rattle.float.specs.Float.{ratio_float}
use Rattle.float.proofs.RoundLaws.{div_one, add_zero}
use Rattle.value.specs.Value.{value, into_float}
use Rattle.value.specs.Value.{zero_fraction}

one : of_int binary32 (pos 1) ≡ fin false 1 (pos 0)
unfolding of_int round size units odd span climb count_trailing_zeros
one = refl

pi_times_zero : mul binary32 (of_bits binary32 0x40490FDB) (ratio_float zero_fraction) ≡ fin false 0 (pos 0)
unfolding ratio_float of_int round size units odd span climb count_trailing_zeros div mul of_bits of_fields
pi_times_zero = refl

-- The float of ±n, where zero has no sign, is the rounded number.
rounded : (s : Bool) (n : ℕ) → of_int binary32 (signed_integer (s && ltb 0 n) n) ≡ round binary32 (s && ltb 0 n) n 1
unfolding of_int
rounded s n = go (s && ltb 0 n) n (λ e. zero_unsigned_of s n e)
  where
    go : (t : Bool) (n : ℕ) → (n ≡ 0 → t ≡ false) → of_int binary32 (signed_integer t n) ≡ round binary32 t n 1
    go false n z = refl
    go true zero z = ap (λ (b : Bool). round binary32 b 0 1) (sym (z refl))
    go true (suc n) z = refl

twice : (s b : Bool) → (s && b) ≡ ((s && b) && b)
twice true true = refl
twice true false = refl
twice false b = refl

module _ (s : Bool) (n : ℕ) (small : n < 2 ^ 24) where
  -- The float of a rational angle that is a whole number is the float of that number, and has its value.
  pub whole_exact : (into_float (value (ratio s n 1) zero_fraction) ≡ of_int binary32 (signed_integer (s && ltb 0 n) n)) × HasValue (of_int binary32 (signed_integer (s && ltb 0 n) n)) (s && ltb 0 n) n 1
  unfolding into_float ratio_float
  whole_exact =
      let t = s && ltb 0 n in
      let h : n ≤ 2 ^ 24 = le_of_lt small in (
        ap (λ (w : Float). add binary32 (div binary32 (of_int binary32 (signed_integer t n)) (of_int binary32 (pos 1))) w) pi_times_zero
            ∙ ap (λ (w : Float). add binary32 (div binary32 w (of_int binary32 (pos 1))) (fin false 0 (pos 0))) (rounded s n)
            ∙ ap (λ (w : Float). add binary32 (div binary32 (round binary32 t n 1) w) (fin false 0 (pos 0))) one
            ∙ ap (λ (w : Float). add binary32 w (fin false 0 (pos 0))) (div_one binary32 t n h)
            ∙ add_zero binary32 t n h (twice s (ltb 0 n))
            ∙ sym (rounded s n),
        subst (λ (w : Float). HasValue w t n 1) (sym (rounded s n)) (round_whole binary32 t n h),
      )
