-- Arguments: where they start, how they advance, and that they stay among the declared qubits and bits.
use Prim.Native.Nat.{ℕ, zero, suc, ◌+◌, ◌-◌, ◌≤◌, ◌<◌, ◌^◌, max}
use native.Mathlib.Omega.{arith}
use mathlib.Core.Path.{◌≡◌, refl, sym, ap, ap₂, subst, ◌∙◌}
use mathlib.Core.Bool.{Bool, true, false, cond}
use mathlib.Core.List.{List, [], ◌∷◌, map}
use borrow.Author.Tests.{ne_eqb}
use lib.Dec.{T, eqb, ltb→lt, leb→le}
use lib.ListN.{length, get_or, take, drop, length-drop}
use lib.Seq.{take_all}
use Rattle.model.specs.Lists.{range, sum, largest}
use Rattle.model.specs.Image.{word, arguments, argument_at, quantum_registers, classical_registers, quantum_size, classical_size, argument_register, argument_index, argument_size, classical_argument_size, gate_arguments, first_qubit, first_bit, rounds}
use Rattle.model.specs.Check.{argument_ok, classical_argument_ok, matching}
use Rattle.model.specs.Steps.{resolve_qreg, qubit_in, bit_in}
use Rattle.model.proofs.ListLaws.{get_d_take}
use Rattle.model.proofs.All.{test, all-All, head-All, tail-All}
use Rattle.model.proofs.Accepted.{few_arguments}
use Rattle.model.specs.Accepted.{Accepted, FrameOk}
use Rattle.model.proofs.StepsSound.{argument, bit_below, matched}
use Rattle.value.specs.declared.Value.{Value}
use Rattle.image.specs.declared.Layout.{Layout}
use Rattle.image.specs.Layout.{LayoutOf}
use Rattle.image.specs.RegisterStarts.{RegisterStarts, RegisterTable}
use Rattle.argument.specs.declared.Argument.{Argument}
use Rattle.argument.specs.Frames.{scope_qubits, scope_frame, ScopeContext, number_in_round, register_argument, RegisterEntry, quantum_argument, classical_argument}

-- sizes of 1 at least come to their number at least
pub count_sum : (f : ℕ → ℕ) (a n : ℕ) → ((r : ℕ) → a ≤ r → r < a + n → 1 ≤ f r) → n ≤ sum (map f (range a n))
unfolding sum range
count_sum f a zero h = omega arith
count_sum f a (suc n) h = omega (arith, h a (omega arith) (omega arith), count_sum f (suc a) n (λ r p q. h r (omega arith) (omega arith)))

either : (b : Bool) {n : ℕ} → 1 ≤ n → 1 ≤ cond b n 1
either true h = h
either false h = omega arith

pub same_argument : {f f' s s' : ℕ} → f ≡ f' → s ≡ s' → ◌≡◌ {A = Argument} (record { first = f; size = s }) (record { first = f'; size = s' })
same_argument p q = λ i. record { first = p i; size = q i }

module _ (image : List ℕ) (acc : Accepted image) (qubits : List ℕ) (a : ℕ) where
  -- a qubit of the frame, in a body
  pub body_register : (scope : ℕ) (qs : List ℕ) → FrameOk image scope [] qs → ¬ (scope ≡ 0) → T (argument_ok image scope a) → argument_register image a < 16
  unfolding argument_ok
  body_register zero qs f h k = absurd (h refl)
  body_register (suc g) qs f h k = omega (arith, ltb→lt (argument_register image a) (gate_arguments image g) (test 0 _ k), few_arguments acc g f.0)

  pub body_first : (scope : ℕ) → ¬ (scope ≡ 0) → T (argument_ok image scope a) → get_or qubits (argument_register image a) 0 ≡ resolve_qreg image scope (take (scope_qubits image scope) qubits) a
  unfolding argument_ok resolve_qreg scope_qubits
  body_first zero h k = absurd (h refl)
  body_first (suc g) h k = sym (get_d_take _ _ qubits 0 (ltb→lt _ _ (test 0 _ k)))

  pub body_size : (scope : ℕ) → ¬ (scope ≡ 0) → 1 ≡ argument_size image scope a
  unfolding argument_size
  body_size zero h = absurd (h refl)
  body_size (suc g) h = refl

  pub at_least_one : (scope : ℕ) → T (argument_ok image scope a) → 1 ≤ argument_size image scope a
  unfolding argument_ok argument_size
  at_least_one zero k = either (eqb (argument_index image a) 0) (acc.qsizes _ (ltb→lt _ _ (test 0 _ k)))
  at_least_one (suc g) k = omega arith

  -- a register's part, in main
  pub main_register : (scope : ℕ) → scope ≡ 0 → T (argument_ok image scope a) → (argument_register image a < quantum_registers image) × (argument_index image a ≤ quantum_size image (argument_register image a))
  unfolding argument_ok
  main_register zero h k = (ltb→lt _ _ (test 0 _ k), leb→le _ _ (test 1 _ k))
  main_register (suc g) h k = absurd (omega arith)

  pub main_first : (scope : ℕ) (qs : List ℕ) → scope ≡ 0 → first_qubit image (argument_register image a) + (argument_index image a - 1) ≡ resolve_qreg image scope qs a
  unfolding resolve_qreg
  main_first zero qs h = refl
  main_first (suc g) qs h = absurd (omega arith)

  pub main_size : (scope : ℕ) → scope ≡ 0 → cond (eqb (argument_index image a) 0) (quantum_size image (argument_register image a)) 1 ≡ argument_size image scope a
  unfolding argument_size
  main_size zero h = refl
  main_size (suc g) h = absurd (omega arith)

-- the last round is below 4096, so the rounds are few
last_below : (f n : ℕ) → ((¬ (n ≡ 1) → n - 1 < n) → f + cond (eqb n 1) 0 (n - 1) < 4096) → n ≤ 4096
last_below f zero h = omega arith
last_below f (suc zero) h = omega arith
last_below f (suc (suc n)) h =
    let m : ¬ (suc (suc n) ≡ 1) = λ e. omega arith in
    omega (arith, rw (ne_eqb (suc (suc n)) 1 m) at (h (λ k. omega arith)))

pub pair_largest : (m n : ℕ) → max m n ≡ largest (m ∷ n ∷ [])
unfolding largest
pair_largest m n = omega arith

-- two sizes that match, in a round below the larger
pub pair_range : (m n i : ℕ) → T (matching (m ∷ n ∷ [])) → i < largest (m ∷ n ∷ []) → (¬ (m ≡ 1) → i < m) × (¬ (n ≡ 1) → i < n)
unfolding matching
pair_range m n i t h =
    let p = all-All _ _ t in
    (matched m _ i (head-All p) h, matched n _ i (head-All (tail-All p)) h)

largest_one : (x : ℕ) → x ≡ largest (x ∷ [])
unfolding largest
largest_one x = omega arith

-- an accepted image has few registers
module _ {image : List ℕ} (acc : Accepted image) where
  pub few_quantum : quantum_registers image ≤ 4096
  unfolding first_qubit
  few_quantum = omega (arith, count_sum (quantum_size image) 0 (quantum_registers image) (λ r p q. acc.qsizes r (omega arith)), acc.few_qubits)

  pub few_classical : classical_registers image ≤ 4096
  unfolding first_bit
  few_classical = omega (arith, count_sum (classical_size image) 0 (classical_registers image) (λ r p q. acc.csizes r (omega arith)), acc.few_bits)

-- ---- quantum arguments

module _ {image : List ℕ} (acc : Accepted image) {scope : ℕ} {qubits : List ℕ} (s : ScopeContext image scope qubits) where
  abbrev resolved : ℕ → Argument
  resolved a = quantum_argument image scope qubits a

  pub resolved_below : (a i : ℕ) → T (argument_ok image scope a) → (¬ (argument_size image scope a ≡ 1) → i < argument_size image scope a) → number_in_round (resolved a) i < 4096
  resolved_below a i k h = omega (arith, argument image acc scope [] (take (scope_qubits image scope) qubits) a i s.frame k h, acc.few_qubits)

  pub qubit_is : (angles : List Value) (a i : ℕ) {x : Argument} {q : ℕ} → x ≡ resolved a → q ≡ number_in_round x i → q ≡ qubit_in image (scope_frame image scope angles qubits) i a
  unfolding qubit_in
  qubit_is angles a i e f = f ∙ ap (λ (x : Argument). number_in_round x i) e

  first_below : (a : ℕ) → T (argument_ok image scope a) → (resolved a).first < 4096
  first_below a k = omega (arith, resolved_below a 0 k (λ n. at_least_one image acc qubits a scope k))

  pub in_range : (a i : ℕ) {x : Argument} → T (argument_ok image scope a) → x ≡ resolved a → (¬ (argument_size image scope a ≡ 1) → i < argument_size image scope a) → number_in_round x i < 2 ^ 64
  in_range a i k e h = omega (arith, resolved_below a i k h, ap (λ (x : Argument). number_in_round x i) e)

  pub few_rounds : (a : ℕ) {x : Argument} → T (argument_ok image scope a) → x ≡ resolved a → x.size ≤ 4096
  few_rounds a {x} k e = rw e (last_below (resolved a).first (argument_size image scope a) (λ h. resolved_below a (argument_size image scope a - 1) k h))

  pub one_round_range : (a i : ℕ) {x : Argument} → x ≡ resolved a → i < x.size → (¬ (argument_size image scope a ≡ 1) → i < argument_size image scope a)
  one_round_range a i e h n = omega (arith, ap (λ (x : Argument). x.size) e)

  pub two_rounds : (a b : ℕ) {x y : Argument} {n : ℕ} → x ≡ resolved a → y ≡ resolved b → n ≡ max x.size y.size → n ≡ rounds image scope (a ∷ b ∷ [])
  unfolding rounds
  two_rounds a b e f g = g ∙ rw (e, f) (pair_largest (argument_size image scope a) (argument_size image scope b))

  pub one_round : (a : ℕ) {x : Argument} → x ≡ resolved a → x.size ≡ rounds image scope (a ∷ [])
  unfolding rounds largest
  one_round a e = ap (λ (x : Argument). x.size) e ∙ largest_one (argument_size image scope a)

  pub measure_rounds : (a c : ℕ) {x y : Argument} {n : ℕ} → x ≡ resolved a → y ≡ classical_argument image c → n ≡ max x.size y.size
      → n ≡ largest (argument_size image scope a ∷ classical_argument_size image c ∷ [])
  measure_rounds a c e f g = g ∙ rw (e, f) (pair_largest (argument_size image scope a) (classical_argument_size image c))

  -- a round below them is one of both arguments
  pub cx_range : (a b i : ℕ) {x y : Argument} {n : ℕ} → T (matching (argument_size image scope a ∷ argument_size image scope b ∷ [])) → x ≡ resolved a → y ≡ resolved b → n ≡ max x.size y.size → i < n
      → (¬ (argument_size image scope a ≡ 1) → i < argument_size image scope a) × (¬ (argument_size image scope b ≡ 1) → i < argument_size image scope b)
  cx_range a b i t e f g h =
      pair_range _ _ i t (subst (λ (n : ℕ). i < n) (g ∙ rw (e, f) (pair_largest (argument_size image scope a) (argument_size image scope b))) h)

  pub measure_range : (a c i : ℕ) {x y : Argument} {n : ℕ} → T (matching (argument_size image scope a ∷ classical_argument_size image c ∷ [])) → x ≡ resolved a → y ≡ classical_argument image c → n ≡ max x.size y.size → i < n
      → (¬ (argument_size image scope a ≡ 1) → i < argument_size image scope a) × (¬ (classical_argument_size image c ≡ 1) → i < classical_argument_size image c)
  measure_range a c i t e f g h = pair_range _ _ i t (subst (λ (n : ℕ). i < n) (measure_rounds a c e f g) h)

  -- the words of an argument entry name a qubit of the frame in a body, a part of a register in main
  module _ {l : Layout} (laid : LayoutOf image l) (a : ℕ) {at : ℕ} (ea : at ≡ argument_at image a) (near : a < arguments image) where
    low : at ≤ 16384
    low = omega (arith, laid.whole, laid.short)

    module _ (k : T (argument_ok image scope a)) where
      pub frame_qubit : {r : ℕ} → r ≡ word image at → ¬ (scope ≡ 0) → (r < 16) × (◌≡◌ {A = Argument} (record { first = get_or qubits r 0; size = 1 }) (resolved a))
      frame_qubit e h =
          let read = e ∙ ap (word image) ea in (
            subst (λ (n : ℕ). n < 16) (sym read) (body_register image acc qubits a scope _ s.frame h k),
            same_argument (ap (λ (n : ℕ). get_or qubits n 0) read ∙ body_first image acc qubits a scope h k) (body_size image acc qubits a scope h),
          )

      pub quantum_argument_is : {c : ℕ} → c ≡ 9 → scope ≡ 0 → register_argument image c at ≡ resolved a
      unfolding first_qubit
      quantum_argument_is e h =
          ap₂ (register_argument image) e ea
          ∙ same_argument (main_first image acc qubits a scope (take (scope_qubits image scope) qubits) h) (main_size image acc qubits a scope h)

      pub quantum_part_lem : {register-starts : List ℕ} → RegisterStarts (quantum_size image) (quantum_registers image) register-starts → {c : ℕ} → c ≡ 9 → scope ≡ 0 → RegisterEntry image register-starts c at
      unfolding first_qubit
      quantum_part_lem {register-starts} starts {c} e h =
          let m = main_register image acc qubits a scope h k in
          record {
            count = quantum_registers image;
            starts = subst (λ (n : ℕ). RegisterStarts (λ i. word image (n + i)) (quantum_registers image) register-starts) (sym e) starts;
            few = few_quantum acc;
            listed = subst (λ (n : ℕ). word image n < quantum_registers image) (sym ea) m.0;
            below = subst (λ (x : Argument). x.first < 4096) (sym (quantum_argument_is e h)) (first_below a k);
            near = (omega arith, low);
          }

-- ---- classical arguments

-- the part of the table that is lent for the classical registers
part_is : {image : List ℕ} {l : Layout} → LayoutOf image l → (register-starts : List ℕ) → take (length register-starts - l.quantum_registers) (drop l.quantum_registers register-starts) ≡ drop (quantum_registers image) register-starts
part_is {l = l} laid register-starts =
    take_all (length register-starts - l.quantum_registers) (drop l.quantum_registers register-starts) (omega (arith, length-drop l.quantum_registers register-starts))
    ∙ ap (λ (n : ℕ). drop n register-starts) laid.quantum_registers_is

module _ {image : List ℕ} (acc : Accepted image) where
  pub bit_range : (c i : ℕ) {y : Argument} → T (classical_argument_ok image c) → y ≡ classical_argument image c → (¬ (classical_argument_size image c ≡ 1) → i < classical_argument_size image c) → number_in_round y i < 2 ^ 64
  unfolding bit_in
  bit_range c i k e h = omega (arith, bit_below image acc c i k h, acc.few_bits, ap (λ (y : Argument). number_in_round y i) e)

  -- the rounds of a classical argument are few
  pub few_bit_rounds : (c : ℕ) {y : Argument} → T (classical_argument_ok image c) → y ≡ classical_argument image c → y.size ≤ 4096
  unfolding bit_in
  few_bit_rounds c {y} k e =
      rw e (last_below (classical_argument image c).first (classical_argument_size image c) (λ h. omega (arith, bit_below image acc c (classical_argument_size image c - 1) k h, acc.few_bits)))

  -- the words of an argument entry name a part of a register
  module _ {l : Layout} (laid : LayoutOf image l) (a : ℕ) {at : ℕ} (ea : at ≡ argument_at image a) (near : a < arguments image) (k : T (classical_argument_ok image a)) where
    low_bits : at ≤ 16384
    low_bits = omega (arith, laid.whole, laid.short)

    register_listed : (argument_register image a < classical_registers image) × (argument_index image a ≤ classical_size image (argument_register image a))
    unfolding classical_argument_ok
    register_listed = (ltb→lt _ _ (test 0 _ k), leb→le _ _ (test 1 _ k))

    pub classical_argument_is : {c : ℕ} → c ≡ 9 + quantum_registers image → register_argument image c at ≡ classical_argument image a
    unfolding first_bit classical_argument_size
    classical_argument_is e = ap₂ (register_argument image) e ea

    bit_size : 1 ≤ classical_argument_size image a
    unfolding classical_argument_size
    bit_size = either (eqb (argument_index image a) 0) (acc.csizes _ register_listed.0)

    bit_first : (classical_argument image a).first < 4096
    unfolding bit_in
    bit_first = omega (arith, bit_below image acc a 0 k (λ n. bit_size), acc.few_bits)

    pub classical_part_lem : {register-starts : List ℕ} → RegisterTable image register-starts → {c : ℕ} → c ≡ 9 + quantum_registers image → RegisterEntry image (take (length register-starts - l.quantum_registers) (drop l.quantum_registers register-starts)) c at
    unfolding first_bit
    classical_part_lem {register-starts} starts {c} e =
        record {
          count = classical_registers image;
          starts = subst (λ (t : List ℕ). RegisterStarts (λ i. word image (c + i)) (classical_registers image) t) (sym (part_is laid register-starts))
              (subst (λ (n : ℕ). RegisterStarts (λ i. word image (n + i)) (classical_registers image) (drop (quantum_registers image) register-starts)) (sym e) starts.classical);
          few = few_classical acc;
          listed = subst (λ (n : ℕ). word image n < classical_registers image) (sym ea) register_listed.0;
          below = subst (λ (x : Argument). x.first < 4096) (sym (classical_argument_is e)) bit_first;
          near = (omega (arith, few_quantum acc), low_bits);
        }

pub bit_is : (image : List ℕ) (c i : ℕ) {y : Argument} {b : ℕ} → y ≡ classical_argument image c → b ≡ number_in_round y i → b ≡ bit_in image i c
unfolding bit_in
bit_is image c i e f = f ∙ ap (λ (y : Argument). number_in_round y i) e
