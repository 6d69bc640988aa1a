-- The first bad statement of a scope, and of all scopes, is found in order.
use Prim.Native.Nat.{ℕ, suc, ◌+◌, ◌-◌, ◌≤◌, ◌<◌}
use native.Mathlib.Omega.{arith}
use mathlib.Core.Path.{◌≡◌, refl, sym, ap, ◌∙◌}
use mathlib.Core.Bool.{Bool, true, false, cond}
use mathlib.Core.List.{List, [], ◌∷◌, ◌++◌, map, flat_map}
use lib.Dec.{eqb}
use Rattle.model.specs.Lists.{range}
use Rattle.model.specs.Image.{gates, statement_at, scope_statements}
use Rattle.model.specs.Check.{Flaw, fine, bad, first_bad, or_else, flaw, every_statement, statement_entries}
use Rattle.model.proofs.Ranges.{one_more, bad_next, bad_here, bad_none}
use Rattle.image.specs.declared.CheckRefusal.{CheckRefusal}
use Rattle.image.specs.Answer.{refusal_flaw}
use Rattle.image_check.specs.declared.StatementFlaw.{StatementFlaw}
use Rattle.image_check.specs.declared.StatementFlaw.TheVariants as flaws
use Rattle.image_check.specs.Answer.{number_of}
use Rattle.image_check.proofs.CheckLaws.{flaw_first}

-- ---- what is wrong with a statement has a number
pub number_some : (f : StatementFlaw) → ¬ (number_of f ≡ 0)
number_some flaws.Form e = absurd (omega arith)
number_some flaws.Upward e = absurd (omega arith)
number_some flaws.Expression e = absurd (omega arith)
number_some flaws.Argument e = absurd (omega arith)
number_some flaws.Sizes e = absurd (omega arith)

-- ---- the first bad statement of a scope, from s on
module _ (number place : ℕ → ℕ) (v : Flaw) where
  abbrev pub From : ℕ → ℕ → Type 0
  From s n = first_bad number place (range s (n - s)) ≡ v

  pub from_start : (l : List ℕ) (s n : ℕ) → l ≡ range s (n - s) → first_bad number place l ≡ v → From s n
  from_start l s n same h = ap (first_bad number place) (sym same) ∙ h

  pub from_next : (s n : ℕ) → From s n → s < n → 0 ≡ number s → From (s + 1) n
  from_next s n h j e = sym (bad_next number place s n j (sym e)) ∙ h

  pub from_here : (s n k p : ℕ) → From s n → s < n → k ≡ number s → ¬ (k ≡ 0) → p ≡ place s → bad k p ≡ v
  from_here s n k p h j e z ep = ap (bad k) ep ∙ sym (bad_here number place s n k j (sym e) z) ∙ h

  pub from_end : (s n : ℕ) → From s n → n ≤ s → fine ≡ v
  from_end s n h j = sym (bad_none number place s n j) ∙ h

-- ---- several lists in a row
module _ {A : Type 0} (number place : A → ℕ) where
  bad_append : (xs ys : List A) → first_bad number place (xs ++ ys) ≡ or_else (first_bad number place xs) (first_bad number place ys)
  unfolding first_bad
  bad_append [] ys = refl
  bad_append (x ∷ xs) ys = go (eqb (number x) 0) (bad_append xs ys)
    where
      go : (t : Bool) → first_bad number place (xs ++ ys) ≡ or_else (first_bad number place xs) (first_bad number place ys)
          → cond t (first_bad number place (xs ++ ys)) (bad (number x) (place x)) ≡ or_else (cond t (first_bad number place xs) (bad (number x) (place x))) (first_bad number place ys)
      go true e = e
      go false e = refl

  bad_map : {B : Type 0} (f : B → A) (xs : List B) → first_bad number place (map f xs) ≡ first_bad (λ x. number (f x)) (λ x. place (f x)) xs
  unfolding first_bad
  bad_map f [] = refl
  bad_map f (x ∷ xs) = ap (λ (v : Flaw). cond (eqb (number (f x)) 0) v (bad (number (f x)) (place (f x)))) (bad_map f xs)

-- ---- the scopes from i to below n
module _ (image : List ℕ) where
  abbrev pub scope_flaw : ℕ → Flaw
  scope_flaw scope = first_bad (λ s. flaw image scope s) (statement_at image) (scope_statements image scope)

  abbrev number_at : ℕ × ℕ → ℕ
  number_at x = flaw image x.0 x.1

  abbrev place_at : ℕ × ℕ → ℕ
  place_at x = statement_at image x.1

  abbrev entries_of : ℕ → List (ℕ × ℕ)
  entries_of scope = map (λ s. (scope, s)) (scope_statements image scope)

  abbrev scopes_from : ℕ → ℕ → Flaw
  scopes_from i n = first_bad number_at place_at (flat_map entries_of (range i (n - i)))

  step : (i n : ℕ) → i < n → scopes_from i n ≡ or_else (scope_flaw i) (scopes_from (i + 1) n)
  unfolding flat_map
  step i n h =
      ap (λ (l : List ℕ). first_bad number_at place_at (flat_map entries_of l)) (one_more i n h)
      ∙ bad_append number_at place_at (entries_of i) (flat_map entries_of (range (i + 1) (n - (i + 1))))
      ∙ ap (λ (v : Flaw). or_else v (scopes_from (i + 1) n)) (bad_map number_at place_at (λ s. (i, s)) (scope_statements image i))

  -- what is left to find is what all of them hold
  abbrev pub Scopes : ℕ → ℕ → Type 0
  Scopes i n = scopes_from i (n + 1) ≡ statement_entries image

  pub scopes_start : (n : ℕ) → n ≡ gates image → Scopes 0 n
  unfolding statement_entries every_statement
  scopes_start n e =
      let size : n + 1 - 0 ≡ suc (gates image) = omega arith in
      ap (λ (k : ℕ). first_bad number_at place_at (flat_map entries_of (range 0 k))) size

  pub scopes_next : (i n : ℕ) → Scopes i n → i ≤ n → fine ≡ scope_flaw i → Scopes (i + 1) n
  scopes_next i n h j e =
      sym (step i (n + 1) (omega arith) ∙ ap (λ (v : Flaw). or_else v (scopes_from (i + 1) (n + 1))) (sym e)) ∙ h

  pub scopes_here : (i n : ℕ) (r : CheckRefusal) → Scopes i n → i ≤ n → refusal_flaw r ≡ scope_flaw i → refusal_flaw r ≡ statement_entries image
  scopes_here i n r h j e =
      flaw_first r (scope_flaw i) (scopes_from (i + 1) (n + 1)) e ∙ sym (step i (n + 1) (omega arith)) ∙ h

  pub scopes_end : (i n : ℕ) → Scopes i n → n < i → fine ≡ statement_entries image
  unfolding flat_map first_bad range
  scopes_end i n h j =
      let none : n + 1 - i ≡ 0 = omega arith in
      sym (ap (λ (k : ℕ). first_bad number_at place_at (flat_map entries_of (range i k))) none) ∙ h
