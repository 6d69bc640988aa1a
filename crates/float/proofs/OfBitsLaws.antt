-- The three fields of an f32's bits give its exact value as a fraction.
use mathlib.Core.Path.{◌≡◌, refl, sym, ap, ◌∙◌, subst}
use mathlib.Core.Bool.{Bool, true, false, cond}
use Prim.Native.Nat.{ℕ, suc, ◌+◌, ◌*◌, ◌/◌, ◌%◌, ◌<◌, ◌^◌}
use lib.Dec.{T, leb, eqb}
use lib.Pow.{pow_pos}
use borrow.Author.Tests.{ne_eqb}
use lib.Ieee.{Float, nan, inf, fin, binary32, fits, of_bits, of_fields, to_bits, odd}
use lib.Ieee.Exact.{HasValue, odd_sign}
use lib.Ieee.Bits.{of_bits-to_bits}
use Rattle.float.proofs.ApproximateFloatLaws.{own_lowest, value_lowest}
use Rattle.std.specs.Prelude.{None}
use Rattle.rational.specs.Rational.{reduced, checked}
use Rattle.float.specs.Float.{approximate_float}

-- The fraction of a float is its value in reduced terms, however the value is written.
value_exact : (x : Float) (s : Bool) (a c : ℕ) → 0 < c → T (fits binary32 x) → HasValue x s a c → checked (reduced s a c) ≡ approximate_float x
unfolding approximate_float
value_exact nan s a c p h v = absurd v
value_exact (inf t) s a c p h v = absurd v
value_exact (fin t m e) s a c p h v = let q = value_lowest binary32 s t m e a c p h v in let own = own_lowest binary32 t m e h in rw (q.0, q.1, own.0, own.1, v.0)

-- The float of some bits, for each of the three kinds of exponent.
module _ (b : ℕ) where
  subnormal : b % 2 ^ 31 / 2 ^ 23 ≡ 0 → of_bits binary32 b ≡ odd 24 (leb (2 ^ 31) b) (b % 2 ^ 23) 0 149
  unfolding of_bits of_fields
  subnormal e = ap (λ (z : ℕ). of_fields binary32 (leb (2 ^ 31) b) z (b % 2 ^ 23)) e

  normal : (x : ℕ) → b % 2 ^ 31 / 2 ^ 23 ≡ suc x → (suc x ≡ 255 → ⊥) → of_bits binary32 b ≡ odd 24 (leb (2 ^ 31) b) (2 ^ 23 + b % 2 ^ 23) x 149
  unfolding of_bits of_fields
  normal x e n =
      ap (λ (z : ℕ). of_fields binary32 (leb (2 ^ 31) b) z (b % 2 ^ 23)) e
      ∙ ap (λ (z : Bool). cond z (cond (eqb (b % 2 ^ 23) 0) (inf (leb (2 ^ 31) b)) nan) (odd 24 (leb (2 ^ 31) b) (2 ^ 23 + b % 2 ^ 23) x 149)) (ne_eqb (suc x) 255 n)

  special : b % 2 ^ 31 / 2 ^ 23 ≡ 255 → approximate_float (of_bits binary32 b) ≡ None
  unfolding of_bits of_fields approximate_float
  special e = ap (λ (z : ℕ). approximate_float (of_fields binary32 (leb (2 ^ 31) b) z (b % 2 ^ 23))) e ∙ go (eqb (b % 2 ^ 23) 0)
    where
      go : (t : Bool) → approximate_float (cond t (inf (leb (2 ^ 31) b)) nan) ≡ None
      go true = refl
      go false = refl

-- ---- at the bits of a float
module _ (x : Float) (h : T (fits binary32 x)) where
  pub exact_subnormal : to_bits binary32 x % 2 ^ 31 / 2 ^ 23 ≡ 0 → checked (reduced (leb (2 ^ 31) (to_bits binary32 x)) (to_bits binary32 x % 2 ^ 23 * 2 ^ 0) (2 ^ 149)) ≡ approximate_float x
  exact_subnormal e =
      let b = to_bits binary32 x in
      value_exact x (leb (2 ^ 31) b) (b % 2 ^ 23 * 2 ^ 0) (2 ^ 149) (pow_pos 149) h
      (subst (λ (z : Float). HasValue z (leb (2 ^ 31) b) (b % 2 ^ 23 * 2 ^ 0) (2 ^ 149)) (sym (subnormal b e) ∙ of_bits-to_bits binary32 x h) (odd_sign 24 (leb (2 ^ 31) b) (b % 2 ^ 23) 0 149))

  pub exact_normal : (k : ℕ) → to_bits binary32 x % 2 ^ 31 / 2 ^ 23 ≡ suc k → (suc k ≡ 255 → ⊥) → checked (reduced (leb (2 ^ 31) (to_bits binary32 x)) ((2 ^ 23 + to_bits binary32 x % 2 ^ 23) * 2 ^ k) (2 ^ 149)) ≡ approximate_float x
  exact_normal k e n =
      let b = to_bits binary32 x in
      let q = 2 ^ 23 + b % 2 ^ 23 in
      value_exact x (leb (2 ^ 31) b) (q * 2 ^ k) (2 ^ 149) (pow_pos 149) h
      (subst (λ (z : Float). HasValue z (leb (2 ^ 31) b) (q * 2 ^ k) (2 ^ 149)) (sym (normal b k e n) ∙ of_bits-to_bits binary32 x h) (odd_sign 24 (leb (2 ^ 31) b) q k 149))

  pub exact_special : to_bits binary32 x % 2 ^ 31 / 2 ^ 23 ≡ 255 → approximate_float x ≡ None
  exact_special e = ap approximate_float (sym (of_bits-to_bits binary32 x h)) ∙ special (to_bits binary32 x) e
