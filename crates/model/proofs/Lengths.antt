-- How long the lists of the definitions are.
use Prim.Native.Nat.{ℕ, zero, suc, ◌+◌, ◌*◌, ◌≤◌, zero-le}
use native.Mathlib.Nat.{le_refl, suc-mul, zero-mul}
use native.Mathlib.Omega.{arith}
use mathlib.Core.Path.{◌≡◌, refl, sym, ap₂, ap, ◌∙◌}
use mathlib.Core.Bool.{Bool, true, false, cond}
use mathlib.Core.List.{List, [], ◌∷◌, map, flat_map}
use lib.Dec.{eqb, ltb}
use lib.ListN.{length, length-append, length-map}
use Rattle.value.specs.declared.Value.{Value}
use Rattle.value.specs.declared.Evaluation.{Evaluation}
use Rattle.value.specs.declared.Evaluation.TheVariants as evaluation
use Rattle.model.specs.Lists.{range, sum, placed, rising}
use Rattle.model.specs.Image.{qubits, bits, first_qubit, first_bit, expression_at, argument_size}
use Rattle.model.specs.Evaluate.{evaluate}
use Rattle.model.specs.Records.{angle_words, pair, fields, encode}
use Rattle.model.specs.Steps.{Frame, Values, have, lack, also, offsets_of, offsets, qubit_in, argument_qubits, parameter_values, head_record}

pub length_range : (a n : ℕ) → length (range a n) ≡ n
unfolding range
length_range a zero = refl
length_range a (suc n) = ap suc (length_range (suc a) n)

-- lists of one length each, joined
pub length_flat : {A B : Type 0} (g : A → List B) (n : ℕ) → ((x : A) → length (g x) ≡ n) → (l : List A) → length (flat_map g l) ≡ length l * n
unfolding flat_map
length_flat g n h [] = sym (zero-mul n)
length_flat g n h (x ∷ l) = length-append (g x) (flat_map g l) ∙ omega (arith, h x, length_flat g n h l, suc-mul (length l) n)

-- lists of a length each, joined
pub length_each : {A B : Type 0} (g : A → List B) (n : A → ℕ) → ((x : A) → length (g x) ≡ n x) → (l : List A) → length (flat_map g l) ≡ sum (map n l)
unfolding flat_map sum
length_each g n h [] = refl
length_each g n h (x ∷ l) = length-append (g x) (flat_map g l) ∙ ap₂ ◌+◌ (h x) (length_each g n h l)

pub length_words : (xs : List Value) → length (flat_map angle_words xs) ≡ length xs * 4
unfolding angle_words
length_words xs = length_flat angle_words 4 (λ x. refl) xs

pub length_pairs : (l : List (ℕ × ℕ)) → length (flat_map pair l) ≡ length l * 2
unfolding pair
length_pairs l = length_flat pair 2 (λ x. refl) l

pub length_placed : (x : ℕ) (l : List ℕ) → length (placed x l) ≤ suc (length l)
unfolding placed
length_placed x [] = le_refl 1
length_placed x (y ∷ ys) = go (ltb x y) (eqb x y) (length_placed x ys)
  where
    go : (b c : Bool) → length (placed x ys) ≤ suc (length ys) → length (cond b (x ∷ y ∷ ys) (cond c (y ∷ ys) (y ∷ placed x ys))) ≤ suc (suc (length ys))
    go true c h = omega arith
    go false true h = omega arith
    go false false h = omega arith

pub length_rising : (l : List ℕ) → length (rising l) ≤ length l
unfolding rising
length_rising [] = zero-le
length_rising (x ∷ xs) = omega (arith, length_placed x (rising xs), length_rising xs)

pub length_offsets : (sizes : ℕ → ℕ) (n : ℕ) → length (offsets sizes n) ≡ sum (map sizes (range 0 n))
unfolding offsets offsets_of
length_offsets sizes n = length_each (offsets_of sizes) sizes (λ r. length-map (range 0 (sizes r)) _ ∙ length_range 0 (sizes r)) (range 0 n)

module _ (image : List ℕ) where
  -- the qubits of arguments are as many as their sizes added up
  pub length_qubits : (frame : Frame) (l : List ℕ) → length (flat_map (argument_qubits image frame) l) ≡ sum (map (argument_size image frame.scope) l)
  unfolding argument_qubits
  length_qubits frame l =
      length_each (argument_qubits image frame) (argument_size image frame.scope)
      (λ a. length-map (range 0 (argument_size image frame.scope a)) (λ i. qubit_in image frame i a) ∙ length_range 0 _) l

  -- as many values as expressions
  pub length_values : (values : List Value) (es : List ℕ) (xs : List Value) → parameter_values image values es ≡ have xs → length xs ≡ length es
  unfolding parameter_values also
  length_values values [] xs e = let d : xs ≡ [] = cc in ap length d
  length_values values (x ∷ es) xs e = go (evaluate image values 32 x) (parameter_values image values es) (λ ys p. length_values values es ys p) e
    where
      go : (g : Evaluation) (v : Values) → ((ys : List Value) → v ≡ have ys → length ys ≡ length es) → also g (expression_at image x) v ≡ have xs → length xs ≡ suc (length es)
      go (evaluation.Value y) (have ys) h p = let d : xs ≡ y ∷ ys = cc in ap length d ∙ ap suc (h ys refl)
      go (evaluation.Value y) (lack r) h p = absurd (let z : ◌≡◌ {A = ℕ} 0 1 = cc in omega arith)
      go evaluation.DivideByZero v h p = absurd (let z : ◌≡◌ {A = ℕ} 0 1 = cc in omega arith)
      go (evaluation.ApproximateFail f) v h p = absurd (let z : ◌≡◌ {A = ℕ} 0 1 = cc in omega arith)
      go evaluation.Overflow v h p = absurd (let z : ◌≡◌ {A = ℕ} 0 1 = cc in omega arith)
      go evaluation.FunctionOfFloats v h p = absurd (let z : ◌≡◌ {A = ℕ} 0 1 = cc in omega arith)

  -- "the head's 3 + 2·(qubits + bits) words"
  pub length_head : length (encode (head_record image)) ≡ 3 + 2 * (qubits image + bits image)
  unfolding head_record encode fields first_qubit first_bit
  length_head = simp (length-append, length_pairs, length_offsets) (omega arith)
