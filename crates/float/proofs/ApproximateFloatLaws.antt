-- A float that fits its format is in lowest terms as it stands.
use mathlib.Core.Path.{◌≡◌, refl, sym, ap, ◌∙◌}
use mathlib.Core.Bool.{Bool, ◌&&◌}
use Prim.Native.Nat.{ℕ, zero, suc, ◌*◌, ◌/◌, ◌%◌, ◌^◌, ◌<◌}
use native.Mathlib.Nat.{mul-one, one-mul, div-one}
use lib.Dec.{T, ltb, leb, eqb, eqb→eq}
use lib.IntN.{ℤ, pos, negsuc}
use lib.Ieee.{Float, nan, inf, fin, Format, binary32, up, down, fits, prec, low, emax}
use lib.Ieee.Fits.{and_l, down_pos}
use lib.Ieee.Exact.{HasValue}
use borrow.Author.Tests.{ltb-true}
use Rattle.rational.specs.Gcd.{gcd}
use Rattle.rational.specs.Rational.{magnitude_in_range, ratio}
use Rattle.rational.specs.Promise.{SoundOption}
use Rattle.rational.proofs.GcdLaws.{lowest_is}
use Rattle.rational.proofs.LowestTermsLaws.{tested, both_true, zero_unsigned_of}
use Rattle.float.specs.Float.{approximate_float}
use Rattle.float.proofs.PowerOfTwoLaws.{gcd_one, odd_power}

flat : (e : ℤ) → up e * down e ≡ 1 → down e ≡ 1
flat (pos k) h = refl
flat (negsuc k) h = sym (one-mul (2 ^ suc k)) ∙ h

float_odd : (f : Format) (s : Bool) (m : ℕ) (e : ℤ) → T (fits f (fin s (suc m) e)) → suc m % 2 ≡ 1
unfolding fits
float_odd f s m e t =
    eqb→eq (suc m % 2) 1
    (and_l (eqb (suc m % 2) 1) (ltb (suc m) (2 ^ prec f))
    (and_l (eqb (suc m % 2) 1 && ltb (suc m) (2 ^ prec f)) (leb (down e) (2 ^ low f))
    (and_l (eqb (suc m % 2) 1 && ltb (suc m) (2 ^ prec f) && leb (down e) (2 ^ low f)) (ltb (suc m * up e) (2 ^ suc (emax f) * down e)) t)))

zero_flat : (f : Format) (s : Bool) (e : ℤ) → T (fits f (fin s zero e)) → down e ≡ 1
unfolding fits
zero_flat f s e t = flat e (eqb→eq (up e * down e) 1 t)

pub float_lowest : (f : Format) (s : Bool) (m : ℕ) (e : ℤ) → T (fits f (fin s m e)) → gcd (m * up e) (down e) ≡ 1
float_lowest f s zero e t = ap (gcd (0 * up e)) (zero_flat f s e t) ∙ gcd_one (0 * up e)
float_lowest f s (suc m) (pos k) t = gcd_one (suc m * 2 ^ k)
float_lowest f s (suc m) (negsuc k) t = ap (λ (z : ℕ). gcd z (2 ^ suc k)) (mul-one (suc m)) ∙ odd_power (suc m) (suc k) (float_odd f s m (negsuc k) t)

-- Its own parts are in reduced terms as they stand.
pub own_lowest : (f : Format) (s : Bool) (m : ℕ) (e : ℤ) → T (fits f (fin s m e)) → (m * up e / gcd (m * up e) (down e) ≡ m * up e) × (down e / gcd (m * up e) (down e) ≡ down e)
own_lowest f s m e h =
    let one = float_lowest f s m e h in
    (ap (λ (g : ℕ). m * up e / g) one ∙ div-one (m * up e), ap (λ (g : ℕ). down e / g) one ∙ div-one (down e))

-- The value of a float that fits its format, however it is written, comes to the float's own parts in reduced terms.
pub value_lowest : (f : Format) (s t : Bool) (m : ℕ) (e : ℤ) (a c : ℕ) → 0 < c → T (fits f (fin t m e)) → HasValue (fin t m e) s a c
    → (a / gcd a c ≡ m * up e) × (c / gcd a c ≡ down e)
value_lowest f s t m e a c p h v = lowest_is a c (m * up e) (down e) p (float_lowest f t m e h) v.1

-- The exact value of an f32, if it is in range, is a fraction in lowest terms.
pub float_sound : (x : Float) → T (fits binary32 x) → SoundOption (approximate_float x)
unfolding approximate_float
float_sound nan h = tt
float_sound (inf s) h = tt
float_sound (fin s m e) h =
    let own = own_lowest binary32 s m e h in
    rw (own.0, own.1)
    (tested (magnitude_in_range (m * up e) && magnitude_in_range (down e)) (ratio s (m * up e) (down e))
    (λ t. let r = both_true (magnitude_in_range (m * up e)) (magnitude_in_range (down e)) t in record {
      positive = down_pos e;
      numer_fits = ltb-true _ _ r.0;
      denom_fits = ltb-true _ _ r.1;
      coprime = float_lowest binary32 s m e h;
      zero_unsigned = zero_unsigned_of s (m * up e);
    }))
