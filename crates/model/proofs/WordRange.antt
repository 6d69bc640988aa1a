-- Where the words of an accepted image are below 2^64, so are the words of its steps' records, if these are declared, their barriers rise and their angles are sound.
use Prim.Native.Nat.{ℕ, zero, suc, ◌+◌, ◌-◌, ◌^◌, ◌≤◌}
use native.Mathlib.Omega.{arith}
use mathlib.Core.Path.{◌≡◌, refl, sym, ◌∙◌, subst}
use mathlib.Core.Bool.{Bool, true, false, cond}
use mathlib.Core.List.{List, [], ◌∷◌, map, flat_map, Memᴰ}
use mathlib.Core.Option.{Option, none, some}
use lib.Dec.{T, ltb, eqb, ltb→lt, lt→ltb, leb→le}
use lib.ListN.{length, get_or, length-map}
use Rattle.rational.specs.declared.Rational64.{Rational64}
use Rattle.rational.specs.Rational.{LowestTerms}
use Rattle.value.specs.declared.Value.{Value}
use Rattle.value.specs.Value.{Sound}
use Rattle.model.specs.Lists.{range, sum, every, all}
use Rattle.model.specs.Image.{Statement, Gate, Conditional, statement_of, statement, statement_at, word, parameter, gates, gate_at, gate_parameters, gate_arguments, gate_body, quantum_register_at, classical_register_at, quantum_registers, classical_registers, quantum_size, classical_size, first_qubit, first_bit, qubits, bits, main_statements, scope_statements}
use Rattle.model.specs.Records.{Record, kind, fraction_words, angle_words, pair, fields, encode}
use Rattle.model.specs.Steps.{Step, write, enter, refuse, Frame, main_frame, Opening, Values, have, lack, given, in_rounds, overlap, offsets, qubit_in, parameter_values, with_values, write_u, write_cx, distinctly, write_opaque, write_measure, write_reset, push_frame, open_gate, visit_gate, visit_plain, visit_conditional, visit_statement, visit_body, opening, head_record, steps}
use Rattle.model.specs.Claims.{in_register, rises, is_qubit, angles_of}
use Rattle.model.proofs.All.{head-All, tail-All, and_t, test, All-every, all-All, All-all, All-weaken, All-append, All-flat, All-range}
use Rattle.model.specs.All.{All, nil, cons}
use Rattle.model.proofs.All.{members-All, All-members}
use Rattle.model.specs.Accepted.{Accepted}
use Rattle.model.proofs.Lengths.{length_range, length_offsets, length_values}
use Rattle.model.proofs.TypedRecords.{declared_record, rises_record}

abbrev pub is_word : ℕ → Bool
is_word x = ltb x (2 ^ 64)

abbrev pub Word : ℕ → Type 0
Word x = T (is_word x)

less : (a b : ℕ) → T (ltb a b) → Word b → Word a
less a b s t = lt→ltb a (2 ^ 64) (omega (arith, ltb→lt a b s, ltb→lt b (2 ^ 64) t))

-- ---- one record

fraction_words_lem : (x : Rational64) → LowestTerms x → All Word (fraction_words x)
unfolding fraction_words
fraction_words_lem x h = cons (numer x.negative refl) (cons (lt→ltb x.denom (2 ^ 64) (omega arith)) nil)
  where
    numer : (b : Bool) → x.negative ≡ b → Word (cond b (2 ^ 64 - x.numer) x.numer)
    numer false e = lt→ltb x.numer (2 ^ 64) (omega arith)
    numer true e =
        let p : ¬ (x.numer ≡ 0) = λ d. let f = h.zero_unsigned d in let z : ◌≡◌ {A = ℕ} 0 1 = cc in omega arith in
        lt→ltb (2 ^ 64 - x.numer) (2 ^ 64) (omega arith)

angle_words_lem : (x : Value) → Sound x → All Word (angle_words x)
unfolding angle_words
angle_words_lem x h = All-append (fraction_words_lem x.a h.rational_part) (fraction_words_lem x.b h.pi_part)

-- registers and offsets, as a head has them
pair_words : (sizes : ℕ → ℕ) (n : ℕ) → Word n → ((r : ℕ) → Word (sizes r)) → (l : List (ℕ × ℕ)) → T (all (in_register sizes n) l) → All Word (flat_map pair l)
unfolding pair in_register
pair_words sizes n h k l t = All-flat pair (All-weaken (λ x s. cons (less x.0 n (test 0 _ s) h) (cons (less x.1 (sizes x.0) (test 1 _ s) (k x.0)) nil)) (all-All (in_register sizes n) l t))

-- numbers that rise from x on and are below n: at most n - x of them
rises_short : (x : ℕ) (l : List ℕ) (n : ℕ) → T (rises (x ∷ l)) → T (all (λ q. ltb q n) (x ∷ l)) → x + suc (length l) ≤ n
unfolding rises all
rises_short x [] n h k = omega (arith, ltb→lt x n (and_t (ltb x n) true k).0)
rises_short x (y ∷ l) n h k =
    let p = and_t (ltb x n) (all (λ q. ltb q n) (y ∷ l)) k in
    let q = and_t (ltb x y) (all (ltb x) l) (test 0 _ h) in
    omega (arith, ltb→lt x y q.0, rises_short y l n (test 1 _ h) p.1)

-- what `declared_record` and `distinct_record` leave open: the counts in a head and in a kind 3, and a conditional's value
unfoldable pub counted_record : Record → Bool
counted_record (Record.Head qs bs) = every (is_word (length qs) ∷ is_word (length bs) ∷ [])
counted_record (Record.U theta phi lambda q) = true
counted_record (Record.CX a b) = true
counted_record (Record.Opaque g xs qs) = every (is_word (length xs) ∷ is_word (length qs) ∷ [])
counted_record (Record.Barrier qs) = true
counted_record (Record.Measure q b) = true
counted_record (Record.Reset q) = true
counted_record (Record.ConditionalStart b n v) = is_word v
counted_record Record.ConditionalEnd = true

abbrev pub Counted : Step → Type 0
Counted (write t r) = T (counted_record r)
Counted (enter t g) = T true
Counted (refuse t x) = T true

-- every word of a step's record is below 2^64
abbrev pub InRange : Step → Type 0
InRange (write t r) = T (all (λ x. ltb x (2 ^ 64)) (encode r))
InRange (enter t g) = T true
InRange (refuse t x) = T true

-- an if's value is below 2^64
unfoldable valued : Statement → Bool
valued (Statement.U theta phi lambda q) = true
valued (Statement.CX a b) = true
valued (Gate g p a) = true
valued (Statement.Barrier a n) = true
valued (Statement.Measure q c) = true
valued (Statement.Reset q) = true
valued (Conditional r v t) = is_word v
valued Statement.Unknown = true

-- an entry of a list, or what stands for one past its end
All-entry : {A : Type 0} {P : A → Type 0} {l : List A} (d : A) → P d → All P l → (i : ℕ) → P (get_or l i d)
All-entry d h nil i = h
All-entry d h (cons p k) zero = p
All-entry d h (cons p k) (suc i) = All-entry d h k i

module _ (image : List ℕ) (acc : Accepted image) (words : T (all (λ x. ltb x (2 ^ 64)) image)) where
  word_word : (i : ℕ) → Word (word image i)
  word_word i = All-entry 0 tt (all-All is_word image words) i

  qubit_word : (q : ℕ) → T (is_qubit image q) → Word q
  qubit_word q t = lt→ltb q (2 ^ 64) (omega (arith, ltb→lt q (qubits image) t, acc.few_qubits))

  qubit_words : (qs : List ℕ) → T (all (is_qubit image) qs) → All Word qs
  qubit_words qs t = All-weaken qubit_word (all-All (is_qubit image) qs t)

  pub record_words : (r : Record) → T (declared_record image r) → T (rises_record r) → T (counted_record r) → All Sound (angles_of r) → All Word (encode r)
  unfolding encode kind fields declared_record rises_record counted_record angles_of
  record_words (Record.Head qs bs) d e c a =
      cons tt (cons (test 0 _ c) (cons (test 1 _ c)
      (All-append (pair_words (quantum_size image) (quantum_registers image) (word_word 1) (λ r. word_word (quantum_register_at image r)) qs (test 0 _ d))
      (pair_words (classical_size image) (classical_registers image) (word_word 2) (λ r. word_word (classical_register_at image r)) bs (test 1 _ d)))))
  record_words (Record.U theta phi lambda q) d e c a =
      cons tt
      (All-append (All-append (All-append (angle_words_lem theta (head-All a)) (angle_words_lem phi (head-All (tail-All a)))) (angle_words_lem lambda (head-All (tail-All (tail-All a)))))
      (cons (qubit_word q d) nil))
  record_words (Record.CX x y) d e c a = cons tt (cons (qubit_word x (test 0 _ d)) (cons (qubit_word y (test 1 _ d)) nil))
  record_words (Record.Opaque g xs qs) d e c a =
      cons tt (cons (less g (gates image) (test 0 _ d) (word_word 3)) (cons (test 0 _ c) (cons (test 1 _ c)
      (All-append (All-flat angle_words (All-weaken angle_words_lem a)) (qubit_words qs (test 1 _ d))))))
  record_words (Record.Barrier qs) d e c a = cons tt (cons (count qs d e) (qubit_words qs d))
    where
      count : (l : List ℕ) → T (all (is_qubit image) l) → T (rises l) → Word (length l)
      count [] d e = tt
      count (x ∷ l) d e = lt→ltb (suc (length l)) (2 ^ 64) (omega (arith, rises_short x l (qubits image) e d, acc.few_qubits))
  record_words (Record.Measure q b) d e c a =
      cons tt (cons (qubit_word q (test 0 _ d)) (cons (lt→ltb b (2 ^ 64) (omega (arith, ltb→lt b (bits image) (test 1 _ d), acc.few_bits))) nil))
  record_words (Record.Reset q) d e c a = cons tt (cons (qubit_word q d) nil)
  record_words (Record.ConditionalStart b n v) d e c a =
      let p : b + n ≤ bits image = leb→le _ _ d in
      cons tt (cons (lt→ltb b (2 ^ 64) (omega (arith, acc.few_bits))) (cons (lt→ltb n (2 ^ 64) (omega (arith, acc.few_bits))) (cons c nil)))
  record_words Record.ConditionalEnd d e c a = cons tt nil

  -- ---- all steps

  -- it is a word of the image
  statement_valued : (s : ℕ) → T (valued (statement image s))
  unfolding statement statement_of valued
  statement_valued s =
      All-entry {P = λ x. T (valued x)} Statement.Unknown tt
      (cons tt (cons tt (cons tt (cons tt (cons tt (cons tt (cons tt (cons (word_word (statement_at image s + 2)) nil)))))))) (word image (statement_at image s))

  rounds_counted : (n : ℕ) (g : ℕ → List Step) → ((i : ℕ) → All Counted (g i)) → All Counted (in_rounds n g)
  unfolding in_rounds
  rounds_counted n g h = All-flat g (All-range 0 n (λ i p q. h i))

  values_counted : (frame : Frame) (es : List ℕ) (next : List Value → List Step) → ((xs : List Value) → length xs ≡ length es → All Counted (next xs)) → All Counted (with_values image frame es next)
  unfolding with_values given
  values_counted frame es next h = go (parameter_values image frame.values es) refl
    where
      go : (v : Values) → parameter_values image frame.values es ≡ v → All Counted (given frame.trace v next)
      go (have xs) e = h xs (length_values image frame.values es xs e)
      go (lack r) e = cons tt nil

  either_counted : (b : Bool) {s t : List Step} → All Counted s → All Counted t → All Counted (cond b s t)
  either_counted true p q = p
  either_counted false p q = q

  -- ways of opening a body whose steps are counted too
  data Ways : Opening → Type 0 where
    shut : Ways none
    opened : {b : Frame → List Step} → ((frame : Frame) → All Counted (b frame)) → Ways (some b)

  call_counted : {o : Opening} → Ways o → (frame : Frame) (s g : ℕ) (al : List ℕ) (xs : List Value) → length xs ≡ gate_parameters image g → length al ≡ gate_arguments image g
      → (i : ℕ) → All Counted (visit_gate image o frame s g al xs i)
  unfolding visit_gate write_opaque distinctly open_gate push_frame counted_record
  call_counted {o} ways frame s g al xs e d i = either_counted (eqb (gate_body image g) 0) (opaque (overlap (qubit_in image frame i) [] al)) (body ways)
    where
      qs : List ℕ
      qs = map (qubit_in image frame i) al

      many : Word (length qs)
      many = subst Word (sym (length-map al (qubit_in image frame i) ∙ d)) (word_word (gate_at image g + 1))

      opaque : (x : Option (ℕ × ℕ)) → All Counted (distinctly image frame.trace x (Record.Opaque g xs qs))
      opaque (some ab) = cons tt nil
      opaque none = cons (All-every (cons (subst Word (sym e) (word_word (gate_at image g))) (cons many nil))) nil

      body : {p : Opening} → Ways p → All Counted (open_gate p (push_frame image frame s g al xs i) g)
      body shut = cons (All-every (cons tt (cons many nil))) nil
      body (opened h) = cons tt (h (push_frame image frame s g al xs i))

  plain_counted : {o : Opening} → Ways o → (frame : Frame) (c : ℕ → ℕ → ℕ → List Step) → ((r v t : ℕ) → Word v → All Counted (c r v t))
      → (s : ℕ) (x : Statement) → T (valued x) → All Counted (visit_plain image c o frame s x)
  unfolding visit_plain write_u write_cx write_measure write_reset counted_record valued
  plain_counted ways frame c k s (Statement.U theta phi lambda q) h = values_counted frame _ _ λ xs e. rounds_counted _ _ λ i. cons tt nil
  plain_counted ways frame c k s (Statement.CX a b) h = rounds_counted _ _ λ i. either_counted (eqb (qubit_in image frame i a) (qubit_in image frame i b)) (cons tt nil) (cons tt nil)
  plain_counted ways frame c k s (Gate g p a) h =
      values_counted frame _ _ λ xs e.
      rounds_counted _ _ (call_counted ways frame s g (range a (gate_arguments image g)) xs (e ∙ length-map (range p (gate_parameters image g)) (parameter image) ∙ length_range p _) (length_range a _))
  plain_counted ways frame c k s (Statement.Barrier a n) h = cons tt nil
  plain_counted ways frame c k s (Statement.Measure q b) h = rounds_counted _ _ λ i. cons tt nil
  plain_counted ways frame c k s (Statement.Reset q) h = rounds_counted _ _ λ i. cons tt nil
  plain_counted ways frame c k s (Conditional r v t) h = k r v t h
  plain_counted ways frame c k s Statement.Unknown h = nil

  if_counted : {o : Opening} → Ways o → (frame : Frame) (r v t : ℕ) → Word v → All Counted (visit_conditional image o frame r v t)
  unfolding visit_conditional counted_record
  if_counted ways frame r v t h = cons h (All-append (plain_counted ways frame (λ r v t. []) (λ r v t z. nil) t (statement image t) (statement_valued t)) (cons tt nil))

  body_counted : {o : Opening} → Ways o → (frame : Frame) → All Counted (visit_body image o frame)
  unfolding visit_body visit_statement
  body_counted {o} ways frame = All-flat (visit_statement image o frame) (each (scope_statements image frame.scope))
    where
      each : (l : List ℕ) → All (λ s. All Counted (visit_statement image o frame s)) l
      each [] = nil
      each (s ∷ l) = cons (plain_counted ways frame (visit_conditional image o frame) (if_counted ways frame) s (statement image s) (statement_valued s)) (each l)

  ways : (n : ℕ) → Ways (opening image n)
  unfolding opening
  ways zero = shut
  ways (suc n) = opened (body_counted (ways n))

  offsets_counted : (sizes : ℕ → ℕ) (n : ℕ) → sum (map sizes (range 0 n)) ≤ 4096 → Word (length (offsets sizes n))
  offsets_counted sizes n h = lt→ltb (length (offsets sizes n)) (2 ^ 64) (omega (arith, length_offsets sizes n))

  head_counted : Counted (write [] (head_record image))
  unfolding head_record counted_record first_qubit first_bit
  head_counted =
      All-every (cons (offsets_counted (quantum_size image) (quantum_registers image) acc.few_qubits) (cons (offsets_counted (classical_size image) (classical_registers image) acc.few_bits) nil))

  pub steps_counted : (depth : ℕ) → All Counted (steps image depth)
  unfolding steps
  steps_counted depth = either_counted (eqb (main_statements image) 0) nil (cons head_counted (body_counted (ways (depth - 1)) main_frame))

  -- the steps, where each record that they write is declared, a barrier's qubits rise and the angles are sound
  pub steps_words : (depth : ℕ)
      → ((t : List ℕ) (r : Record) → Memᴰ (write t r) (steps image depth) → T (declared_record image r) × T (rises_record r) × ((x : Value) → Memᴰ x (angles_of r) → Sound x))
      → All InRange (steps image depth)
  steps_words depth h = All-members (steps image depth) go
    where
      go : (s : Step) → Memᴰ s (steps image depth) → InRange s
      go (write t r) m = let k = h t r m in All-all is_word (record_words r k.0 k.1 (members-All (steps_counted depth) (write t r) m) (All-members (angles_of r) k.2))
      go (enter t g) m = tt
      go (refuse t x) m = tt

-- the words of such records, one after another
pub output_words_lem : {rs : List Record} → All (λ r. T (all (λ x. ltb x (2 ^ 64)) (encode r))) rs → T (all (λ x. ltb x (2 ^ 64)) (flat_map encode rs))
output_words_lem h = All-all is_word (All-flat encode (All-weaken (λ r t. all-All is_word (encode r) t) h))
