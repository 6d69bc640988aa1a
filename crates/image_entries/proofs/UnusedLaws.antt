-- Whether words are 0 is asked one after another.
use Prim.Native.Nat.{ℕ, ◌+◌, ◌-◌, ◌≤◌, ◌<◌}
use native.Mathlib.Omega.{arith}
use mathlib.Core.Path.{◌≡◌, ap, ◌∙◌}
use mathlib.Core.Bool.{Bool, true, false}
use mathlib.Core.List.{List}
use lib.Dec.{eqb}
use Rattle.model.specs.Lists.{range, all}
use Rattle.model.specs.Image.{word}
use Rattle.model.proofs.Ranges.{all_start, all_next, all_fails}

-- ---- the words from n on, where those from i on are left
-- whether the word i of the entry at a place is 0
abbrev pub zero_at : List ℕ → ℕ → ℕ → Bool
zero_at image at i = eqb (word image (at + i)) 0

module _ (p : ℕ → Bool) where
  pub words_next : (n i : ℕ) → n ≤ i → all p (range n (i - n)) ≡ true → p i ≡ true → all p (range n (i + 1 - n)) ≡ true
  words_next n i h e t =
      let one : i + 1 - n ≡ i - n + 1 = omega arith in
      let here : n + (i - n) ≡ i = omega arith in
      ap (λ (k : ℕ). all p (range n k)) one ∙ all_next p n (i - n) e (ap p here ∙ t)

  pub words_fail : (n i m : ℕ) → n ≤ i → i < m → p i ≡ false → false ≡ all p (range n (m - n))
  words_fail n i m h k f =
      let here : n + (i - n) ≡ i = omega arith in
      all_fails p n (i - n) (m - n) (omega arith) (ap p here ∙ f)

  pub words_start : (n : ℕ) → all p (range n (n - n)) ≡ true
  words_start n = let none : n - n ≡ 0 = omega arith in ap (λ (k : ℕ). all p (range n k)) none ∙ all_start p n

-- the words behind a place that is a statement's
pub zeros_are : (image : List ℕ) (at p n : ℕ) → at ≡ p → all (zero_at image at) (range n (5 - n)) ≡ all (zero_at image p) (range n (5 - n))
zeros_are image at p n e = ap (λ (k : ℕ). all (zero_at image k) (range n (5 - n))) e
