-- The sum whose steps are each capped at the limit is the definition's sum.
use mathlib.Core.Path.{◌≡◌, refl, sym, ap, ◌∙◌, subst}
use mathlib.Core.Bool.{Bool, true, false, not, beq, ◌&&◌, cond}
use Prim.Native.Nat.{ℕ, ◌*◌, ◌/◌, ◌<◌, ◌^◌, min}
use native.Mathlib.Nat.{mul-pos, mul-div_cancel'}
use native.Mathlib.Omega.{arith}
use lib.Dec.{ltb}
use borrow.Author.Tests.{ltb-true, ltb-false, le-ltb}
use Rattle.rational.specs.Gcd.{gcd}
use Rattle.rational.proofs.GcdLaws.{gcd_dvd_left, pos_factor}
use Rattle.rational.specs.declared.Rational64.{Rational64}
use Rattle.std.specs.Prelude.{Option, Some, None}
use Rattle.rational.specs.Rational.{reduced, unlike, common_denominator, sum_magnitude, sum_sign, all_in_range, fraction_sum}

-- Whether two signs differ, by the comparison of the code.
pub unlike_is : (s t : Bool) → not (beq s t) ≡ unlike s t
unlike_is true true = refl
unlike_is true false = refl
unlike_is false true = refl
unlike_is false false = refl

-- A number that must be below the limit may be capped at the limit before it is tested.
capped_any : (a : ℕ) (F : ℕ → Bool → Option Rational64) → ((x : ℕ) → F x false ≡ None) → F (min a (2 ^ 63)) (ltb (min a (2 ^ 63)) (2 ^ 63)) ≡ F a (ltb a (2 ^ 63))
capped_any a F h = go (ltb a (2 ^ 63)) refl
  where
    kept : ltb a (2 ^ 63) ≡ true → min a (2 ^ 63) ≡ a
    kept e = omega (arith, ltb-true a (2 ^ 63) e)

    capped : ltb a (2 ^ 63) ≡ false → ltb (min a (2 ^ 63)) (2 ^ 63) ≡ false
    capped e = le-ltb (min a (2 ^ 63)) (2 ^ 63) (omega (arith, ltb-false a (2 ^ 63) e))

    go : (b : Bool) → ltb a (2 ^ 63) ≡ b → F (min a (2 ^ 63)) (ltb (min a (2 ^ 63)) (2 ^ 63)) ≡ F a (ltb a (2 ^ 63))
    go true e = rw (kept e)
    go false e = ap (F (min a (2 ^ 63))) (capped e) ∙ h (min a (2 ^ 63)) ∙ sym (h a) ∙ ap (F a) (sym e)

-- Tests of which the last one fails give nothing.
no1 : (b : Bool) (v : Option Rational64) → cond (b && false) v None ≡ None
no1 true v = refl
no1 false v = refl

no2 : (a b : Bool) (v : Option Rational64) → cond (a && (b && false)) v None ≡ None
no2 true b v = no1 b v
no2 false b v = refl

no3 : (a b d : Bool) (v : Option Rational64) → cond (a && (b && (d && false))) v None ≡ None
no3 true b d v = no2 b d v
no3 false b d v = refl

-- All steps of the sum, each capped at the limit before the next.
steps : (L : ℕ) (P Q : ℕ → ℕ) (M : ℕ → ℕ → ℕ) (R : ℕ → ℕ → ℕ → ℕ → Rational64) (l p q m : ℕ)
    → l ≡ min L (2 ^ 63) → p ≡ min (P l) (2 ^ 63) → q ≡ min (Q l) (2 ^ 63) → m ≡ min (M p q) (2 ^ 63)
    → cond (all_in_range l p q m) (Some (R l p q m)) None ≡ cond (all_in_range L (P L) (Q L) (M (P L) (Q L))) (Some (R L (P L) (Q L) (M (P L) (Q L)))) None
steps L P Q M R l p q m el ep eq em =
    let H = 2 ^ 63 in
    rw (em, eq, ep, el)
    (capped_any L (λ l b. cond (b && (ltb (min (P l) H) H && (ltb (min (Q l) H) H && ltb (min (M (min (P l) H) (min (Q l) H)) H) H))) (Some (R l (min (P l) H) (min (Q l) H) (min (M (min (P l) H) (min (Q l) H)) H))) None) (λ x. refl)
    ∙ capped_any (P L) (λ p b. cond (ltb L H && (b && (ltb (min (Q L) H) H && ltb (min (M p (min (Q L) H)) H) H))) (Some (R L p (min (Q L) H) (min (M p (min (Q L) H)) H))) None) (λ x. no1 (ltb L H) _)
    ∙ capped_any (Q L) (λ q b. cond (ltb L H && (ltb (P L) H && (b && ltb (min (M (P L) q) H) H))) (Some (R L (P L) q (min (M (P L) q) H))) None) (λ x. no2 (ltb L H) (ltb (P L) H) _)
    ∙ capped_any (M (P L) (Q L)) (λ m b. cond (ltb L H && (ltb (P L) H && (ltb (Q L) H && b))) (Some (R L (P L) (Q L) m)) None) (λ x. no3 (ltb L H) (ltb (P L) H) (ltb (Q L) H) _))

pub common_pos : (b d : ℕ) → 0 < b → 0 < d → 0 < common_denominator b d
common_pos b d B D = mul-pos (pos_factor (gcd b d) (b / gcd b d) (subst (λ (z : ℕ). 0 < z) (sym (mul-div_cancel' (gcd b d) (gcd_dvd_left b d))) B)) D

pub sum_is : (x y : Rational64) (l p q m : ℕ) (u s t : Bool)
    → l ≡ min (common_denominator x.denom y.denom) (2 ^ 63) → p ≡ min (l / x.denom * x.numer) (2 ^ 63) → q ≡ min (l / y.denom * y.numer) (2 ^ 63)
    → u ≡ unlike x.negative y.negative → m ≡ min (sum_magnitude u p q) (2 ^ 63) → s ≡ sum_sign x.negative p y.negative q → t ≡ all_in_range l p q m
    → cond t (Some (reduced s m l)) None ≡ fraction_sum x y
unfolding fraction_sum
sum_is x y l p q m u s t el ep eq eu em es et =
    rw (et, es) (steps (common_denominator x.denom y.denom) (λ l. l / x.denom * x.numer) (λ l. l / y.denom * y.numer) (sum_magnitude (unlike x.negative y.negative)) (λ l p q m. reduced (sum_sign x.negative p y.negative q) m l) l p q m el ep eq (rw eu at em))
