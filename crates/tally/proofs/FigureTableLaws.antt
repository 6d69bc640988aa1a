-- The table of the bodies' figures is filled row by row.
use Rattle.std.proofs.Common.{ℕ, suc, ◌+◌, ◌-◌, ◌≤◌, ◌<◌, ◌≡◌, refl, ◌∙◌, Bool, true, false, List, length, get_or, set, arith}
use lib.Dec.{eqb}
use lib.Seq.{get_or-set_same, get_or-set_other}
use borrow.Author.Tests.{eqb-true, eqb-false}
use Rattle.model.specs.Image.{gates}
use Rattle.model.specs.Accepted.{Accepted}
use Rattle.model.proofs.Deep.{deep_body}
use Rattle.tally.specs.Weights.{weight_of, entry_of, capped_figures, no_figures, body, FigureTable}
use Rattle.tally.specs.declared.figures.Figures.{Figures}
use Rattle.tally.proofs.CappedLaws.{alike}

module _ (image : List ℕ) (n : ℕ) where
  -- a row, after one was put
  rowed : (g h : ℕ) (x y : Figures) (table next : List Figures) → next ≡ set table g x → g < length table → (h ≡ g → x ≡ y) → (¬ (h ≡ g) → get_or table h no_figures ≡ y) → get_or next h no_figures ≡ y
  rowed g h x y table next en few here other = go (eqb h g) refl
    where
      go : (t : Bool) → eqb h g ≡ t → get_or next h no_figures ≡ y
      go true p = let same = eqb-true h g p in rw (en, same) (get_or-set_same table g x no_figures few ∙ here same)
      go false p = let apart = eqb-false h g p in rw en (get_or-set_other table g h x no_figures apart ∙ other apart)

  -- ---- one level deeper: the gates from g on are there, and those before it are as they were
  abbrev pub Deepened : ℕ → List Figures → Type 0
  Deepened g table = FigureTable image n g table × ((h : ℕ) → g ≤ h → h < gates image → get_or table h no_figures ≡ capped_figures (body image n h))

  pub deepened_none : (g : ℕ) (table : List Figures) → g ≡ gates image → FigureTable image n (gates image) table → Deepened g table
  deepened_none g table e tab = (rw e tab, λ h p q. absurd (omega arith))

  pub deepened_next : (g : ℕ) (table next : List Figures) → Deepened g table → 0 < g → g ≤ length table → next ≡ set table (g - 1) (capped_figures (body image n (g - 1))) → Deepened (g - 1) next
  deepened_next g table next d p few new = (
    record { holds = λ k h e q. rowed (g - 1) h _ _ table next new (omega arith) (λ same. absurd (omega arith)) (λ apart. d.0.holds k h e (omega arith)) },
    λ h q below. rowed (g - 1) h _ _ table next new (omega arith) (λ same. rw same refl) (λ apart. d.1 h (omega arith) below),
  )

  pub deepened_done : (g : ℕ) (table : List Figures) → g ≤ 0 → Deepened g table → FigureTable image (suc n) (gates image) table
  deepened_done g table h d = record { holds = λ k m e p. let same : k ≡ n = omega arith in rw same (d.1 m (omega arith) p) }

  -- ---- all bodies opened: the gates before g are there, and g's figures are the same one level deeper
  pub whole_next : Accepted image → (g : ℕ) (table next : List Figures) → g < gates image → g < n → FigureTable image n g table → g < length table → next ≡ set table g (capped_figures (body image n g)) → FigureTable image n (g + 1) next
  whole_next accepted g table next h deep tab few new =
      record {
        holds = λ k m e p.
            rowed g m _ _ table next new few (λ same. rw same (alike _ _ (λ j. deep_body image (weight_of j) (entry_of j) accepted (suc g) n k (omega arith) (omega arith) (omega arith))))
            (λ apart. tab.holds k m e (omega arith));
      }

-- a table of more gates is one of fewer
pub tabled_fewer : (image : List ℕ) (n m p : ℕ) (table : List Figures) → p ≤ m → FigureTable image n m table → FigureTable image n p table
tabled_fewer image n m p table h tab = record { holds = λ k g e q. tab.holds k g e (omega arith) }
