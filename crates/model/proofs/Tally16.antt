-- The tally of an accepted image is refused with 16 exactly if a figure passes 4,294,967,295, and what it answers otherwise is the figures.
use Prim.Native.Nat.{ℕ, ◌<◌}
use native.Mathlib.Omega.{arith}
use mathlib.Core.Path.{◌≡◌, refl, sym, subst}
use mathlib.Core.Bool.{Bool, true, false, cond, ◌&&◌}
use mathlib.Core.Logic.{◌↔◌}
use mathlib.Core.List.{List, [], ◌∷◌, Memᴰ}
use borrow.Author.Tests.{leb-false}
use lib.Dec.{T, leb, leb→le}
use Rattle.model.specs.Lists.{all}
use Rattle.model.specs.Check.{Flaw, fine, bad, check}
use Rattle.model.specs.Tally.{tallied, refused, figures, if_accepted, tally}
use Rattle.model.proofs.All.{all-All, members-All}

-- some number of a list passes m
abbrev pub Passes : ℕ → List ℕ → Type 0
Passes m l = (n : ℕ) × Memᴰ n l × (m < n)

passing : (m : ℕ) (l : List ℕ) → all (λ n. leb n m) l ≡ false → Passes m l
unfolding all
passing m [] e = absurd (let z : ◌≡◌ {A = ℕ} 0 1 = cc in omega arith)
passing m (x ∷ l) e = go (leb x m) refl e (passing m l)
  where
    go : (b : Bool) → leb x m ≡ b → b && all (λ n. leb n m) l ≡ false → (all (λ n. leb n m) l ≡ false → Passes m l) → Passes m (x ∷ l)
    go true d e later = let p = later e in (p.0, Memᴰ.tail p.1, p.2)
    go false d e later = (x, Memᴰ.head refl, leb-false x m d)

-- what holds of all holds of each
module _ (image : List ℕ) (depth : ℕ) where
  -- no figure passes
  abbrev small : Bool
  small = all (λ n. leb n 4294967295) (figures image depth)

  pub refused_16 : check image ≡ fine → (tally image depth ≡ refused 16 0) ↔ Passes 4294967295 (figures image depth)
  unfolding tally if_accepted
  refused_16 f = go (check image) small f refl
    where
      go : (v : Flaw) (b : Bool) → v ≡ fine → small ≡ b → (if_accepted v (cond b (tallied (figures image depth)) (refused 16 0)) ≡ refused 16 0) ↔ Passes 4294967295 (figures image depth)
      go (bad n p) b f e = absurd (let z : ◌≡◌ {A = ℕ} 0 1 = cc in omega arith)
      go fine true f e =
          let each = all-All _ (figures image depth) (subst T (sym e) tt) in
          (λ q. absurd (let z : ◌≡◌ {A = ℕ} 0 1 = cc in omega arith), λ p. absurd (omega (arith, leb→le p.0 4294967295 (members-All each p.0 p.1), p.2)))
      go fine false f e = (λ q. passing 4294967295 (figures image depth) e, λ p. refl)

  pub tallied_figures : (l : List ℕ) → tally image depth ≡ tallied l → l ≡ figures image depth
  unfolding tally if_accepted
  tallied_figures l = go (check image) small
    where
      go : (v : Flaw) (b : Bool) → if_accepted v (cond b (tallied (figures image depth)) (refused 16 0)) ≡ tallied l → l ≡ figures image depth
      go (bad n p) b e = cc
      go fine true e = cc
      go fine false e = cc
