-- What a statement that is no if comes to, and what is known of its numbers.
use Rattle.std.proofs.Common.{ℕ, zero, suc, ◌*◌, ◌≤◌, max, ◌≡◌, refl, ap, subst, List, map, arith}
use mathlib.Core.Option.{Option}
use Rattle.model.specs.Lists.{range, sum, largest}
use Rattle.model.specs.Image.{Statement, U, CX, Gate, Barrier, Measure, Reset, Conditional, Unknown, gates, arguments, all_statements, argument_size, classical_argument_size, rounds}
use Rattle.model.specs.Tally.{plain_tally}
use Rattle.model.specs.Accepted.{PlainFacts, calls_below}
use Rattle.image.specs.declared.Layout.{Layout}
use Rattle.image.specs.Layout.{LayoutOf}
use Rattle.tally.specs.Weights.{weight_of, plain_figure}

module _ (image : List ℕ) (scope : ℕ) where
  -- what a statement that is no if comes to does not hang on what an if comes to
  pub no_if_any : (weight : ℕ → ℕ → ℕ) (entry : ℕ) (v w : ℕ → ℕ) (o : Option (ℕ → ℕ)) (x : Statement) → ((r k t : ℕ) → x ≡ Conditional r k t → ⊥)
      → plain_tally image weight entry v o scope x ≡ plain_tally image weight entry w o scope x
  unfolding plain_tally
  no_if_any weight entry v w o (U a b c d) h = refl
  no_if_any weight entry v w o (CX a b) h = refl
  no_if_any weight entry v w o (Gate g p a) h = refl
  no_if_any weight entry v w o (Barrier a n) h = refl
  no_if_any weight entry v w o (Measure q c) h = refl
  no_if_any weight entry v w o (Reset q) h = refl
  no_if_any weight entry v w o (Conditional r k t) h = absurd (h r k t refl)
  no_if_any weight entry v w o Unknown h = refl

  -- the facts of a plain statement tell that it is no if
  pub plain_any : (weight : ℕ → ℕ → ℕ) (entry : ℕ) (v w : ℕ → ℕ) (o : Option (ℕ → ℕ)) (x : Statement) → PlainFacts image scope x
      → plain_tally image weight entry v o scope x ≡ plain_tally image weight entry w o scope x
  plain_any weight entry v w o x f = no_if_any weight entry v w o x (λ r k t e. subst (PlainFacts image scope) e f)

-- what rounds of a record come to
module _ (image : List ℕ) (n scope k : ℕ) where
  pub u_rounds : (a b c q j : ℕ) → k ≡ argument_size image scope q → k * weight_of j 1 14 ≡ plain_figure image n scope (U a b c q) j
  unfolding plain_tally rounds largest
  u_rounds a b c q j e = let m : k ≡ max (argument_size image scope q) 0 = omega arith in ap (λ (i : ℕ). i * weight_of j 1 14) m

  pub cx_rounds : (a b j : ℕ) → k ≡ max (argument_size image scope a) (argument_size image scope b) → k * weight_of j 2 3 ≡ plain_figure image n scope (CX a b) j
  unfolding plain_tally rounds largest
  cx_rounds a b j e = let m : k ≡ max (argument_size image scope a) (max (argument_size image scope b) 0) = omega arith in ap (λ (i : ℕ). i * weight_of j 2 3) m

  pub measure_rounds : (q c j : ℕ) → k ≡ max (argument_size image scope q) (classical_argument_size image c) → k * weight_of j 5 3 ≡ plain_figure image n scope (Measure q c) j
  unfolding plain_tally largest
  measure_rounds q c j e = let m : k ≡ max (argument_size image scope q) (max (classical_argument_size image c) 0) = omega arith in ap (λ (i : ℕ). i * weight_of j 5 3) m

  pub reset_rounds : (q j : ℕ) → k ≡ argument_size image scope q → k * weight_of j 6 2 ≡ plain_figure image n scope (Reset q) j
  unfolding plain_tally rounds largest
  reset_rounds q j e = let m : k ≡ max (argument_size image scope q) 0 = omega arith in ap (λ (i : ℕ). i * weight_of j 6 2) m

-- the counts of an image are small
module _ (image : List ℕ) (l : Layout) (laid : LayoutOf image l) where
  pub arguments_few : arguments image ≤ 8192
  arguments_few = omega (arith, laid.whole, laid.short)

  pub statements_few : all_statements image ≤ 8192
  statements_few = omega (arith, laid.whole, laid.short)

-- in a body every argument has size 1
pub formal_sizes : (image : List ℕ) (scope a n : ℕ) → ¬ (scope ≡ 0) → sum (map (argument_size image scope) (range a n)) ≡ n
unfolding sum range argument_size
formal_sizes image zero a n h = absurd (h refl)
formal_sizes image (suc g) a zero h = refl
formal_sizes image (suc g) a (suc n) h = omega (arith, formal_sizes image (suc g) (suc a) n h)

-- a scope of the image may call gates of the image alone
pub calls_below_few : (image : List ℕ) (scope : ℕ) → scope ≤ gates image → calls_below image scope ≤ gates image
calls_below_few image zero h = omega arith
calls_below_few image (suc g) h = omega arith
