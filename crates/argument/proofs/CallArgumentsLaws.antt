-- The arguments of a call: each is accepted, they have their qubits in each round, and the rounds are few.
use Prim.Native.Nat.{ℕ, zero, suc, ◌+◌, ◌≤◌, ◌<◌}
use native.Mathlib.Numerals.{add-one}
use native.Mathlib.Omega.{arith}
use mathlib.Core.Path.{◌≡◌, refl, sym, ap, ap₂, ◌∙◌}
use mathlib.Core.Bool.{◌||◌}
use mathlib.Core.List.{List, [], ◌∷◌, ◌++◌, map, map-append}
use lib.Dec.{T, eqb}
use lib.ListN.{length, get_or, set, take, length-set}
use lib.Seq.{take-suc-set}
use Rattle.model.specs.Lists.{range, largest}
use Rattle.model.specs.Image.{arguments, argument_size, rounds}
use Rattle.model.specs.Check.{argument_ok, matching}
use Rattle.model.specs.Steps.{qubit_in}
use Rattle.model.proofs.ListLaws.{get_d_take, entry_of_map, range_snoc}
use Rattle.model.proofs.All.{all-All, of-All, range-All}
use Rattle.model.proofs.StepsSound.{matched}
use Rattle.model.specs.Accepted.{Accepted}
use Rattle.argument.specs.Frames.{scope_frame, ScopeContext, CallArguments, RoundQubits}
use Rattle.argument.proofs.ArgumentLaws.{few_rounds}

map_snoc : (f : ℕ → ℕ) (a n : ℕ) → map f (range a (n + 1)) ≡ map f (range a n) ++ f (a + n) ∷ []
map_snoc f a n = ap (map f) (range_snoc a n) ∙ map-append f (range a n) ((a + n) ∷ [])

module _ (image : List ℕ) (scope : ℕ) (qubits : List ℕ) (a i : ℕ) where
  pub qubits_none : {q : List ℕ} → length q ≡ 16 → RoundQubits image scope qubits a 0 i q
  unfolding range
  qubits_none e = record { sixteen = e; front = refl }

  pub qubits_more : {j x : ℕ} {q : List ℕ} → j < 16 → RoundQubits image scope qubits a j i q → x ≡ qubit_in image (scope_frame image scope [] qubits) i (a + j) → RoundQubits image scope qubits a (j + 1) i (set q j x)
  qubits_more {j} {x} {q} h k e =
      record {
        sixteen = length-set q j x ∙ k.sixteen;
        front = ap (λ (n : ℕ). take n (set q j x)) (add-one j) ∙ take-suc-set q j x (omega (arith, k.sixteen)) ∙ ap₂ (λ (s : List ℕ) (y : ℕ). s ++ y ∷ []) k.front e ∙ sym (map_snoc (qubit_in image (scope_frame image scope [] qubits) i) a j);
      }

  -- so each is the qubit of its argument
  pub qubit_of : {n : ℕ} {q : List ℕ} → RoundQubits image scope qubits a n i q → (j : ℕ) → j < n → qubit_in image (scope_frame image scope [] qubits) i (a + j) ≡ get_or q j 0
  qubit_of {n} {q} k j h = sym (entry_of_map _ a n j 0 h) ∙ ap (λ (l : List ℕ). get_or l j 0) (sym k.front) ∙ get_d_take n j q 0 h

module _ {image : List ℕ} {scope a n : ℕ} (c : CallArguments image scope a n) {j : ℕ} (h : j < n) where
  pub argument_listed : a + j < arguments image
  argument_listed = omega (arith, c.listed)

  pub argument_is_ok : T (argument_ok image scope (a + j))
  argument_is_ok = range-All {P = λ b. T (argument_ok image scope b)} a n (a + j) (all-All _ _ c.each) (omega arith) (omega arith)

  pub argument_in_round : (i : ℕ) → i < rounds image scope (range a n) → ¬ (argument_size image scope (a + j) ≡ 1) → i < argument_size image scope (a + j)
  unfolding matching rounds
  argument_in_round i k =
      matched _ _ i
      (range-All {P = λ b. T (eqb (argument_size image scope b) 1 || eqb (argument_size image scope b) (largest (map (argument_size image scope) (range a n))))} a n (a + j) (of-All (argument_size image scope) (range a n) (all-All _ _ c.match)) (omega arith) (omega arith))
      k

-- the rounds of a call are few
largest_few : (f : ℕ → ℕ) (a n : ℕ) → ((j : ℕ) → a ≤ j → j < a + n → f j ≤ 4096) → largest (map f (range a n)) ≤ 4096
unfolding largest range
largest_few f a zero h = omega arith
largest_few f a (suc n) h = omega (arith, h a (omega arith) (omega arith), largest_few f (suc a) n (λ j p q. h j (omega arith) (omega arith)))

pub call_rounds_few : {image : List ℕ} {scope : ℕ} {qubits : List ℕ} {a n : ℕ} → Accepted image → ScopeContext image scope qubits → CallArguments image scope a n → rounds image scope (range a n) ≤ 4096
unfolding rounds
call_rounds_few {image} {scope} {a = a} {n} acc s c =
    largest_few (argument_size image scope) a n λ j p q. few_rounds acc s j (range-All {P = λ b. T (argument_ok image scope b)} a n j (all-All _ _ c.each) p q) refl
