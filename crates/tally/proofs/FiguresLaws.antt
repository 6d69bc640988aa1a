-- The nine figures are those of the nine weights, and that they are capped does not change the answer.
use Rattle.std.proofs.Common.{ℕ, ◌+◌, ◌-◌, ◌^◌, ◌≤◌, ◌<◌, min, ◌≡◌, refl, sym, ap, ◌∙◌, Bool, true, false, ◌&&◌, List, [], ◌∷◌, map, ltb, leb, arith}
use mathlib.Core.Path.{ap₂}
use borrow.Author.Tests.{ltb-true, ltb-false, le-leb, lt-leb}
use Rattle.model.specs.Lists.{range, largest, all}
use Rattle.model.specs.Image.{gates}
use Rattle.model.specs.Check.{fine, check}
use Rattle.model.specs.Tally.{weight_tally, record_figure, entry_figure, word_bound, figures, TallyAnswer, tallied, refused, if_accepted, tally}
use Rattle.model.proofs.Accepted.{accepts}
use Rattle.model.specs.Accepted.{Accepted}
use Rattle.model.proofs.Deep.{deep_figures}
use Rattle.image.specs.declared.CheckRefusal.{CheckRefusal}
use Rattle.image.specs.declared.CheckRefusal.TheVariants as refusal
use Rattle.image.specs.Answer.{refusal_flaw}
use Rattle.tally.specs.Weights.{weight_of, entry_of, capped, capped_figures, nine_of, refused_as}
use Rattle.tally.specs.declared.figures.Figures.{Figures}

module _ (image : List ℕ) where
  pub figures_by_weight : (depth : ℕ) → figures image depth ≡ map (λ j. weight_tally image (weight_of j) (entry_of j) depth) (range 0 9)
  unfolding figures record_figure entry_figure word_bound range weight_of entry_of
  figures_by_weight depth = refl

  -- the figures of the nine weights
  pub nine_capped : (depth : ℕ) → nine_of (capped_figures (λ j. weight_tally image (weight_of j) (entry_of j) depth)) ≡ map capped (figures image depth)
  unfolding range capped_figures
  nine_capped depth = sym (ap (map capped) (figures_by_weight depth))

  -- ---- only the levels opened enter, up to the number of gates
  weight_same : (j d e : ℕ) → d - 1 ≡ e - 1 → weight_tally image (weight_of j) (entry_of j) d ≡ weight_tally image (weight_of j) (entry_of j) e
  unfolding weight_tally
  weight_same j d e h = rw h refl

  level_same : (d e : ℕ) → d - 1 ≡ e - 1 → figures image d ≡ figures image e
  level_same d e h = figures_by_weight d ∙ (λ i. map (λ j. weight_same j d e h i) (range 0 9)) ∙ sym (figures_by_weight e)

  pub levels_enough : Accepted image → (depth n : ℕ) → n ≡ min (depth - 1) (gates image) → figures image depth ≡ figures image (n + 1)
  levels_enough acc depth n e = go (ltb (gates image) depth) refl
    where
      go : (t : Bool) → ltb (gates image) depth ≡ t → figures image depth ≡ figures image (n + 1)
      go true p = let h = ltb-true (gates image) depth p in deep_figures image acc depth (n + 1) h (omega arith)
      go false p = let h = ltb-false (gates image) depth p in level_same depth (n + 1) (omega arith)

-- ---- figures that are capped
uncapped : (l : List ℕ) → largest (map capped l) < 2 ^ 32 → map capped l ≡ l
unfolding largest
uncapped [] h = refl
uncapped (x ∷ l) h = ap₂ ◌∷◌ (omega arith) (uncapped l (omega arith))

small : (l : List ℕ) → largest l < 2 ^ 32 → all (λ n. leb n 4294967295) l ≡ true
unfolding largest all
small [] h = refl
small (x ∷ l) h = rw (le-leb x 4294967295 (omega arith)) (small l (omega arith))

passing : (l : List ℕ) → 2 ^ 32 ≤ largest (map capped l) → all (λ n. leb n 4294967295) l ≡ false
unfolding largest all
passing [] h = absurd (omega arith)
passing (x ∷ l) h = go (ltb x (2 ^ 32)) refl (passing l)
  where
    go : (t : Bool) → ltb x (2 ^ 32) ≡ t → (2 ^ 32 ≤ largest (map capped l) → all (λ n. leb n 4294967295) l ≡ false) → (leb x 4294967295 && all (λ n. leb n 4294967295) l) ≡ false
    go true p later = let q = ltb-true x (2 ^ 32) p in rw (le-leb x 4294967295 (omega arith)) (later (omega arith))
    go false p later = let q = ltb-false x (2 ^ 32) p in rw (lt-leb x 4294967295 (omega arith)) refl

-- ---- the answer
module _ (image : List ℕ) (depth n : ℕ) (f : Figures) (ok : check image ≡ fine) (levels_are : n ≡ min (depth - 1) (gates image)) (figures-are : f ≡ capped_figures (λ j. weight_tally image (weight_of j) (entry_of j) (n + 1))) where
  same : figures image depth ≡ figures image (n + 1)
  same = levels_enough image (accepts image ok) depth n levels_are

  nine-are : nine_of f ≡ map capped (figures image (n + 1))
  nine-are = ap nine_of figures-are ∙ nine_capped image (n + 1)

  pub tally_figures : largest (nine_of f) < 2 ^ 32 → tallied (nine_of f) ≡ tally image depth
  unfolding tally if_accepted
  tally_figures h =
      let e : largest (nine_of f) ≡ largest (map capped (figures image (n + 1))) = ap largest nine-are in
      let u = uncapped (figures image (n + 1)) (omega arith) in
      let s = small (figures image (n + 1)) (omega (arith, ap largest u)) in
      rw (ok, same, s) (ap tallied (nine-are ∙ u))

  pub tally_large : 2 ^ 32 ≤ largest (nine_of f) → refused 16 0 ≡ tally image depth
  unfolding tally if_accepted
  tally_large h =
      let e : largest (nine_of f) ≡ largest (map capped (figures image (n + 1))) = ap largest nine-are in
      rw (ok, same, passing (figures image (n + 1)) (omega arith)) refl

-- an image that is refused
refused_tally : (r : CheckRefusal) (a : TallyAnswer) → refused_as (refusal_flaw r) ≡ if_accepted (refusal_flaw r) a
unfolding if_accepted
refused_tally refusal.Contents a = refl
refused_tally (refusal.Register p) a = refl
refused_tally (refusal.GateEntry p) a = refl
refused_tally (refusal.Form p) a = refl
refused_tally (refusal.Argument p) a = refl
refused_tally (refusal.Expression p) a = refl
refused_tally (refusal.Sizes p) a = refl
refused_tally (refusal.Upward p) a = refl

pub tally_refused : (image : List ℕ) (depth : ℕ) (r : CheckRefusal) → refusal_flaw r ≡ check image → refused_as (refusal_flaw r) ≡ tally image depth
unfolding tally
tally_refused image depth r h = rw (← h) (refused_tally r _)
