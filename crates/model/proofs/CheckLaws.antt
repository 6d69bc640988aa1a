-- A refusal of check is that of the first bad entry, with its own number and place.
use Prim.Native.Nat.{ℕ}
use native.Mathlib.Omega.{arith}
use mathlib.Core.Path.{◌≡◌, refl, ap, ◌∙◌}
use mathlib.Core.Bool.{Bool, true, false, cond}
use mathlib.Core.Logic.{◌⊎◌, inl, inr, ⊎_elim}
use mathlib.Core.List.Memᴰ
use mathlib.Core.List.{List, [], ◌∷◌}
use borrow.Author.Tests.{eqb-true, eqb-false}
use lib.Dec.{eqb}
use Rattle.model.specs.Check.{Flaw, fine, bad, or_else, first_bad, contents_ok, registers, gate_entries, statement_entries, check}
use Rattle.model.specs.Claims.{FirstOfList, FirstFlaw}

-- the first of a list whose number is not 0
pub first_bad_lem : {A : Type 0} (number place : A → ℕ) (l : List A) (n p : ℕ) → first_bad number place l ≡ bad n p → FirstOfList number place l n p
unfolding first_bad
first_bad_lem number place [] n p e = absurd (let z : ◌≡◌ {A = ℕ} 0 1 = cc in omega arith)
first_bad_lem number place (x ∷ l) n p e = go (eqb (number x) 0) refl e (first_bad_lem number place l n p)
  where
    go : (b : Bool) → eqb (number x) 0 ≡ b → cond b (first_bad number place l) (bad (number x) (place x)) ≡ bad n p
        → (first_bad number place l ≡ bad n p → FirstOfList number place l n p) → FirstOfList number place (x ∷ l) n p
    go true z e later =
        let f = later e in
        record {
          before = x ∷ f.before;
          entry = f.entry;
          behind = f.behind;
          split = ap (λ k. x ∷ k) f.split;
          sound_before = λ y h. ⊎_elim (λ d. ap number d ∙ eqb-true (number x) 0 z) (f.sound_before y) (Memᴰ.cases_cons h);
          its_number = f.its_number;
          its_place = f.its_place;
          is_bad = f.is_bad;
        }
    go false z e later =
        record {
          before = [];
          entry = x;
          behind = l;
          split = refl;
          sound_before = λ y h. absurd (Memᴰ.not-nil h);
          its_number = cc;
          its_place = cc;
          is_bad = λ d. eqb-false (number x) 0 z (cc);
        }

or_bad : (u v : Flaw) (n p : ℕ) → or_else u v ≡ bad n p → (u ≡ bad n p) ⊎ (u ≡ fine) × (v ≡ bad n p)
or_bad fine v n p e = inr (refl, e)
or_bad (bad m q) v n p e = inl e

pub check_first : (image : List ℕ) (n p : ℕ) → check image ≡ bad n p → FirstFlaw image n p
unfolding check registers gate_entries statement_entries
check_first image n p e = go (contents_ok image) refl e
  where
    go : (b : Bool) → contents_ok image ≡ b → cond b (or_else (registers image) (or_else (gate_entries image) (statement_entries image))) (bad 1 0) ≡ bad n p → FirstFlaw image n p
    go false c e = inl (c, cc, cc)
    go true c e =
        inr (
          c,
          ⊎_elim
              (λ d. ⊎_elim (λ f. inl (first_bad_lem _ _ _ n p f)) (λ f. inr (inl (first_bad_lem _ _ _ n p f.1))) (or_bad _ _ n p d))
              (λ d. inr (inr (d.0, ⊎_elim (λ f. inl (first_bad_lem _ _ _ n p f)) (λ f. inr (f.0, first_bad_lem _ _ _ n p f.1)) (or_bad _ _ n p d.1))))
              (or_bad _ _ n p e),
        )
