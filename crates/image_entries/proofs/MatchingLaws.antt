-- Sizes match if each one is 1 or the largest.
use Prim.Native.Nat.{ℕ}
use mathlib.Core.Path.{◌≡◌, refl, sym, ap}
use mathlib.Core.Bool.{Bool, true, false, ◌&&◌, ◌||◌}
use mathlib.Core.List.{List, [], ◌∷◌, map}
use lib.Dec.{eqb}
use borrow.Author.Tests.{eq-eqb, ne_eqb}
use Rattle.model.specs.Lists.{largest, all}
use Rattle.model.specs.Check.{matching}

all_of : (p : ℕ → Bool) (f : ℕ → ℕ) (l : List ℕ) → all p (map f l) ≡ all (λ x. p (f x)) l
unfolding all
all_of p f [] = refl
all_of p f (x ∷ l) = ap (λ (b : Bool). p (f x) && b) (all_of p f l)

-- one size among others whose largest is m
abbrev pub fit : ℕ → ℕ → Bool
fit m x = eqb x 1 || eqb x m

abbrev pub fitting : ℕ → (ℕ → ℕ) → ℕ → Bool
fitting m size i = fit m (size i)

pub fit_one : (m x : ℕ) → x ≡ 1 → fit m x ≡ true
fit_one m x e = rw (eq-eqb x 1 e) refl

pub fit_most : (m x : ℕ) → x ≡ m → fit m x ≡ true
fit_most m x e = go (eqb x 1)
  where
    go : (t : Bool) → (t || eqb x m) ≡ true
    go true = refl
    go false = eq-eqb x m e

pub fit_not : (m x : ℕ) → ¬ (x ≡ 1) → ¬ (x ≡ m) → fit m x ≡ false
fit_not m x h k = rw (ne_eqb x 1 h, ne_eqb x m k) refl

pub matching_is : (f : ℕ → ℕ) (l : List ℕ) (m : ℕ) → m ≡ largest (map f l) → all (λ x. fit m (f x)) l ≡ matching (map f l)
unfolding matching
matching_is f l m e = rw e (sym (all_of (fit (largest (map f l))) f l))
