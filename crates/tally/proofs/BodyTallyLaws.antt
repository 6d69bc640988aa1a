-- What the statements of a scope come to, one by one.
use Rattle.std.proofs.Common.{ℕ, zero, suc, ◌+◌, ◌-◌, ◌*◌, cond, eqb, ◌≤◌, ◌≡◌, refl, sym, ◌∙◌, List, map, arith}
use borrow.Author.Tests.{ne_eqb}
use Rattle.model.specs.Lists.{range, sum}
use Rattle.model.specs.Image as model
use Rattle.model.specs.Image.{statement, scope_statements, main_statements, qubits, bits}
use Rattle.model.specs.Tally.{statement_tally, body_tally, weight_tally}
use Rattle.model.proofs.Ranges.{sum_next}
use Rattle.image.specs.declared.statement.Statement.{Statement}
use Rattle.image.specs.declared.statement.Statement.TheVariants.{U, CX, Gate, Barrier, Measure, Reset, Conditional}
use Rattle.image.specs.Entries.{as_statement}
use Rattle.tally.specs.Weights.{weight_of, entry_of, opening_for, capped_figures, figure, no_figures, plain_figure, statement_figure, body_figure}
use Rattle.tally.specs.declared.figures.Figures.{Figures}
use Rattle.tally.proofs.CappedLaws.{sum_of, alike, none_is}
use Rattle.tally.proofs.PlainTallyLaws.{no_if_any}

-- a statement that is no if as it was read is none in the model
no_if : (x : Statement) → ((r k t : ℕ) → x ≡ Conditional r k t → ⊥) → (r k t : ℕ) → as_statement x ≡ model.Conditional r k t → ⊥
no_if (U a b c d) h r k t e = cc
no_if (CX a b) h r k t e = cc
no_if (Gate g p a) h r k t e = cc
no_if (Barrier a m) h r k t e = cc
no_if (Measure q c) h r k t e = cc
no_if (Reset q) h r k t e = cc
no_if (Conditional a b c) h r k t e = absurd (h a b c refl)

module _ (image : List ℕ) (n scope : ℕ) where
  pub plain_comes : (x : Statement) (s : ℕ) → ((r k t : ℕ) → x ≡ Conditional r k t → ⊥) → as_statement x ≡ statement image s → (j : ℕ) → plain_figure image n scope (as_statement x) j ≡ statement_figure image n scope s j
  unfolding statement_tally
  plain_comes x s h e j = rw (← e) (no_if_any image scope (weight_of j) (entry_of j) _ _ (opening_for image j n) (as_statement x) (no_if x h))

  -- ---- what the statements from one to below another come to
  abbrev pub so_far : ℕ → ℕ → ℕ → ℕ
  so_far from s j = sum (map (λ t. statement_figure image n scope t j) (range from (s - from)))

  none_lem : (from j : ℕ) → 0 ≡ so_far from from j
  unfolding sum range
  none_lem from j = let z : from - from ≡ 0 = omega arith in rw z refl

  pub none_yet : (from : ℕ) → no_figures ≡ capped_figures (so_far from from)
  none_yet from = none_is ∙ alike _ _ (none_lem from)

  more_lem : (from s j : ℕ) → from ≤ s → so_far from s j + statement_figure image n scope s j ≡ so_far from (s + 1) j
  more_lem from s j h =
      let e : s + 1 - from ≡ s - from + 1 = omega arith in
      let here : from + (s - from) ≡ s = omega arith in
      rw e (sym (rw here at (sum_next (λ t. statement_figure image n scope t j) from (s - from))))

  pub one_more : (from s : ℕ) (total added r : Figures) → from ≤ s → total ≡ capped_figures (so_far from s) → added ≡ capped_figures (statement_figure image n scope s)
      → r ≡ capped_figures (λ j. figure total j + figure added j) → r ≡ capped_figures (so_far from (s + 1))
  one_more from s total added r h et ea er =
      sum_of (so_far from s) (statement_figure image n scope s) total added r et ea er ∙ alike _ _ (λ j. more_lem from s j h)

  pub whole_body : (from end : ℕ) → scope_statements image scope ≡ range from (end - from) → (j : ℕ) → so_far from end j ≡ body_figure image n scope j
  unfolding body_tally
  whole_body from end e j = rw e refl

-- ---- in all: main's statements, and the head if there are any
total_lem : (f : ℕ → ℕ) (main head : ℕ) → sum (map f (range 0 main)) + cond (eqb main 0) 0 head ≡ cond (eqb main 0) 0 (head + sum (map f (range 0 main)))
unfolding range sum
total_lem f zero head = refl
total_lem f (suc m) head = rw (ne_eqb (suc m) 0 (omega arith)) (omega arith)

pub total_is : (image : List ℕ) (n j : ℕ)
    → body_figure image n 0 j + cond (eqb (main_statements image) 0) 0 (weight_of j 0 (3 + 2 * (qubits image + bits image))) ≡ weight_tally image (weight_of j) (entry_of j) (n + 1)
unfolding weight_tally body_tally scope_statements
total_is image n j =
    let m : n + 1 - 1 ≡ n = omega arith in
    rw m (total_lem (λ s. statement_figure image n 0 s j) (main_statements image) (weight_of j 0 (3 + 2 * (qubits image + bits image))))
