-- The size of an argument follows from its two words, and the rounds are the largest of some sizes.
use Prim.Native.Nat.{ℕ, zero, suc, ◌+◌, ◌≤◌, max}
use native.Mathlib.Omega.{arith}
use native.Mathlib.Nat.{add-zero}
use mathlib.Core.Path.{◌≡◌, refl, sym, ap, ◌∙◌}
use mathlib.Core.Bool.{cond}
use mathlib.Core.List.{List, map}
use lib.Dec.{eqb}
use borrow.Author.Tests.{eq-eqb, ne_eqb}
use Rattle.model.specs.Lists.{range, largest}
use Rattle.model.specs.Image.{word, quantum_registers, quantum_register_at, classical_register_at, argument_at, argument_register, argument_index, argument_size, classical_argument_size}
use Rattle.model.proofs.Ranges.{largest_next}

-- ---- the size of one argument
module _ (image : List ℕ) where
  pub size_one : (scope a : ℕ) → ¬ (scope ≡ 0) → 1 ≡ argument_size image scope a
  unfolding argument_size
  size_one zero a z = absurd (z refl)
  size_one (suc g) a z = refl

  pub size_one_index : (a p i : ℕ) → p ≡ argument_at image a → i ≡ word image (p + 1) → ¬ (i ≡ 0) → (registers : ℕ) → 1 ≡ cond (eqb (argument_index image a) 0) (word image (registers + argument_register image a)) 1
  size_one_index a p i at-is index_is h registers = rw (← at-is, ← index_is, ne_eqb i 0 h) refl

  pub size_of_register : (a p i r w registers : ℕ) → p ≡ argument_at image a → i ≡ word image (p + 1) → i ≡ 0 → r ≡ word image p → w ≡ word image (registers + r) → w ≡ cond (eqb (argument_index image a) 0) (word image (registers + argument_register image a)) 1
  size_of_register a p i r w registers at-is index_is h er ew = rw (← at-is, ← index_is, ← er, eq-eqb i 0 h) ew

  pub quantum_in_main : (a f : ℕ) {w : ℕ} → f ≡ quantum_register_at image 0 → w ≡ cond (eqb (argument_index image a) 0) (word image (f + argument_register image a)) 1 → w ≡ argument_size image 0 a
  unfolding argument_size
  quantum_in_main a f e w-is = rw e at w-is

  pub classical_in_main : (a f : ℕ) {w : ℕ} → f ≡ classical_register_at image 0 → w ≡ cond (eqb (argument_index image a) 0) (word image (f + argument_register image a)) 1 → w ≡ classical_argument_size image a
  unfolding classical_argument_size
  classical_in_main a f e w-is = rw (e, add-zero (quantum_register_at image (quantum_registers image))) at w-is

-- ---- the largest of some numbers
module _ (f : ℕ → ℕ) where
  pub most_start : (a : ℕ) → 0 ≡ largest (map f (range a 0))
  unfolding largest range
  most_start a = refl

  pub most_next : (a i m x k : ℕ) → m ≡ largest (map f (range a i)) → x ≡ f (a + i) → k ≡ max m x → k ≡ largest (map f (range a (i + 1)))
  most_next a i m x k em ex ek = rw (ek, em, ex) (sym (largest_next f a i))

  pub most_done : (a i n m : ℕ) → i ≤ n → n ≤ i → m ≡ largest (map f (range a i)) → m ≡ largest (map f (range a n))
  most_done a i n m h k e = let same : i ≡ n = omega arith in e ∙ ap (λ (j : ℕ). largest (map f (range a j))) same
