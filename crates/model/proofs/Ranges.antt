-- What a loop over a range has found after some turns: all, sum, largest, and the first bad one.
use Prim.Native.Nat.{ℕ, zero, suc, ◌+◌, ◌-◌, ◌≤◌, ◌<◌, max}
use native.Mathlib.Nat.{add-zero, add-suc, suc-add, not-suc-le-zero}
use native.Mathlib.Numerals.{add-one}
use native.Mathlib.Omega.{arith}
use mathlib.Core.Path.{◌≡◌, refl, sym, ap, ◌∙◌}
use mathlib.Core.Bool.{Bool, true, false, ◌&&◌}
use mathlib.Core.List.{◌∷◌, map}
use borrow.Author.Tests.{eq-eqb, ne_eqb}
use Rattle.rational.proofs.LowestTermsLaws.{both_true}
use Rattle.model.specs.Lists.{range, sum, largest, all}
use Rattle.model.specs.Check.{fine, bad, first_bad}

-- ---- a test at each of the numbers from a on
module _ (p : ℕ → Bool) where
  pub all_start : (a : ℕ) → all p (range a 0) ≡ true
  unfolding all range
  all_start a = refl

  all_snoc : (a n : ℕ) → all p (range a n) ≡ true → p (a + n) ≡ true → all p (range a (suc n)) ≡ true
  unfolding all range
  all_snoc a zero e h = rw (sym (ap p (add-zero a)) ∙ h) refl
  all_snoc a (suc n) e h =
      let s = both_true (p a) (all p (range (suc a) n)) e in
      rw s.0 (all_snoc (suc a) n s.1 (ap p (suc-add a n ∙ sym (add-suc a n)) ∙ h))

  pub all_next : (a i : ℕ) → all p (range a i) ≡ true → p (a + i) ≡ true → all p (range a (i + 1)) ≡ true
  all_next a i e h = rw (add-one i) (all_snoc a i e h)

  pub all_fails : (a i n : ℕ) → i < n → p (a + i) ≡ false → false ≡ all p (range a n)
  unfolding all range
  all_fails a i zero h f = absurd (not-suc-le-zero h)
  all_fails a zero (suc n) h f = sym (rw (sym (ap p (add-zero a)) ∙ f) refl)
  all_fails a (suc i) (suc n) h f = go (p a) (all_fails (suc a) i n (omega arith) (ap p (suc-add a i ∙ sym (add-suc a i)) ∙ f))
    where
      go : (b : Bool) → false ≡ all p (range (suc a) n) → false ≡ (b && all p (range (suc a) n))
      go true e = e
      go false e = refl

-- ---- the sum and the largest of some numbers
module _ (f : ℕ → ℕ) where
  sum_snoc : (a n : ℕ) → sum (map f (range a (suc n))) ≡ sum (map f (range a n)) + f (a + n)
  unfolding sum range
  sum_snoc a zero = omega (arith, ap f (add-zero a))
  sum_snoc a (suc n) = omega (arith, sum_snoc (suc a) n, ap f (suc-add a n ∙ sym (add-suc a n)))

  pub sum_next : (a i : ℕ) → sum (map f (range a (i + 1))) ≡ sum (map f (range a i)) + f (a + i)
  sum_next a i = ap (λ (k : ℕ). sum (map f (range a k))) (add-one i) ∙ sum_snoc a i

  largest_snoc : (a n : ℕ) → largest (map f (range a (suc n))) ≡ max (largest (map f (range a n))) (f (a + n))
  unfolding largest range
  largest_snoc a zero = omega (arith, ap f (add-zero a))
  largest_snoc a (suc n) = omega (arith, largest_snoc (suc a) n, ap f (suc-add a n ∙ sym (add-suc a n)))

  pub largest_next : (a i : ℕ) → largest (map f (range a (i + 1))) ≡ max (largest (map f (range a i))) (f (a + i))
  largest_next a i = ap (λ (k : ℕ). largest (map f (range a k))) (add-one i) ∙ largest_snoc a i

-- ---- the numbers from i to below n
pub one_more : (i n : ℕ) → i < n → range i (n - i) ≡ i ∷ range (i + 1) (n - (i + 1))
unfolding range
one_more i n h = ap (range i) more ∙ ap (λ (k : ℕ). i ∷ range k (n - (i + 1))) (sym (add-one i))
  where
    more : n - i ≡ suc (n - (i + 1))
    more = omega arith

-- the first bad one of them
module _ (number place : ℕ → ℕ) where
  pub bad_next : (i n : ℕ) → i < n → number i ≡ 0 → first_bad number place (range i (n - i)) ≡ first_bad number place (range (i + 1) (n - (i + 1)))
  unfolding first_bad
  bad_next i n h e = ap (first_bad number place) (one_more i n h) ∙ rw (eq-eqb (number i) 0 e) refl

  pub bad_here : (i n k : ℕ) → i < n → number i ≡ k → ¬ (k ≡ 0) → first_bad number place (range i (n - i)) ≡ bad k (place i)
  unfolding first_bad
  bad_here i n k h e z = ap (first_bad number place) (one_more i n h) ∙ rw (e, ne_eqb k 0 z) refl

  pub bad_none : (i n : ℕ) → n ≤ i → first_bad number place (range i (n - i)) ≡ fine
  unfolding first_bad range
  bad_none i n h = ap (λ (k : ℕ). first_bad number place (range i k)) none
    where
      none : n - i ≡ 0
      none = omega arith
