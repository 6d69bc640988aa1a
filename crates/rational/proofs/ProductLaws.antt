-- The product that is reduced crosswise and capped at the limit is the definition's product.
use mathlib.Core.Path.{◌≡◌, refl, sym, ◌∙◌}
use mathlib.Core.Bool.{Bool, true, false, ◌&&◌}
use Prim.Native.Nat.{ℕ, ◌*◌, ◌/◌, ◌^◌, min}
use native.Mathlib.Omega.{arith}
use lib.Dec.{ltb}
use borrow.Author.Tests.{ltb-true, ltb-false, le-ltb}
use Rattle.rational.specs.Gcd.{gcd}
use Rattle.rational.proofs.GcdLaws.{cross}
use Rattle.rational.specs.declared.Rational64.{Rational64}
use Rattle.rational.specs.Rational.{LowestTerms, ratio, checked, unlike, product}

-- A part that leaves the range may be capped at the limit first.
pub checked_min : (s : Bool) (N D : ℕ) → checked (ratio s (min N (2 ^ 63)) (min D (2 ^ 63))) ≡ checked (ratio s N D)
checked_min s N D = go (ltb N (2 ^ 63)) (ltb D (2 ^ 63)) refl refl
  where
    kept : (N : ℕ) → ltb N (2 ^ 63) ≡ true → min N (2 ^ 63) ≡ N
    kept N e = omega (arith, ltb-true N (2 ^ 63) e)

    capped : (N : ℕ) → ltb N (2 ^ 63) ≡ false → ltb (min N (2 ^ 63)) (2 ^ 63) ≡ false
    capped N e = le-ltb (min N (2 ^ 63)) (2 ^ 63) (omega (arith, ltb-false N (2 ^ 63) e))

    go : (p q : Bool) → ltb N (2 ^ 63) ≡ p → ltb D (2 ^ 63) ≡ q → checked (ratio s (min N (2 ^ 63)) (min D (2 ^ 63))) ≡ checked (ratio s N D)
    go true true e f = rw (kept N e, kept D f)
    go true false e f = rw (kept N e) (simp (e, capped D f, f))
    go false q e f = simp (capped N e, e)

-- The product as the code computes it, one hypothesis for each step.
pub product_is : (x y : Rational64) (g h n d : ℕ) (t s : Bool) → LowestTerms x → LowestTerms y → g ≡ gcd x.numer y.denom → h ≡ gcd y.numer x.denom
    → n ≡ min (x.numer / g * (y.numer / h)) (2 ^ 63) → d ≡ min (x.denom / h * (y.denom / g)) (2 ^ 63) → t ≡ unlike x.negative y.negative → s ≡ (t && ltb 0 n)
    → checked (record { negative = s; numer = n; denom = d }) ≡ product x y
unfolding product
product_is x y g h n d t s gx gy eg eh en ed et es =
    let u = unlike x.negative y.negative in
    let e = cross x.numer x.denom y.numer y.denom gx.positive gy.positive gx.coprime gy.coprime in
    rw (es, en, ed, et, eg, eh)
    (checked_min u (x.numer / gcd x.numer y.denom * (y.numer / gcd y.numer x.denom)) (x.denom / gcd y.numer x.denom * (y.denom / gcd x.numer y.denom))
    ∙ sym (rw (e.0, e.1)))
