-- What is claimed of every run, and proved in proofs/: demand 3, and that a barrier's qubits rise, over the words that stand in the output when it ends (Outcome), the depth rule and the angles (Depth, AnglesSound), what a barrier holds (BarrierLaws), and what document 01 says of a result that it leaves open (FlawLaws).
use Rattle.std.specs.Prelude.{ℕ, ◌+◌, ◌*◌, ◌/◌, ◌^◌, ◌≤◌, ◌≡◌, Bool, true, false, not, ◌||◌, cond, ◌⊎◌, T, leb, ltb, eqb, length, get_or, take, drop}
use mathlib.Core.List.{List, [], ◌∷◌, ◌++◌, map, flat_map, Memᴰ}
use Rattle.value.specs.declared.Value.{Value}
use Rattle.value.specs.Value.{Sound}
use Rattle.model.specs.Refusals as refusal
use Rattle.model.specs.Lists.{range, sum, every, all}
use Rattle.model.specs.Image.{Statement, main_statements, quantum_registers, classical_registers, gates, quantum_size, classical_size, qubits, bits, gate_body, quantum_register_at, classical_register_at, gate_at, statement_at}
use Rattle.model.specs.Check.{fine, contents_ok, register_flaw, registers, gate_flaw, gate_entries, flaw, every_statement}
use Rattle.model.specs.Records.{Record, kind, encode}
use Rattle.model.specs.Steps.{Step, write, enter, refuse, Frame, Opening, argument_qubits, barrier_holds, visit_plain, steps}
use Rattle.model.specs.Run.{Outcome, done, full, flawed, runs}
use Rattle.model.specs.Tally.{record_figure, entry_figure, word_bound}
use Rattle.model.specs.RecordReader.{records_in}

-- ---- of a record's words

-- how many of some records are of a kind
unfoldable pub count : ℕ → List (List ℕ) → ℕ
count k [] = 0
count k (r ∷ rs) = cond (eqb (get_or r 0 0) k) 1 0 + count k rs

-- words two by two
unfoldable pub pairs_of : List ℕ → List (ℕ × ℕ)
pairs_of [] = []
pairs_of (a ∷ []) = []
pairs_of (a ∷ b ∷ l) = (a, b) ∷ pairs_of l

-- "in a head, a register of its sort with an offset below its size"
unfoldable pub in_register : (ℕ → ℕ) → ℕ → ℕ × ℕ → Bool
in_register sizes n x = every (ltb x.0 n ∷ ltb x.1 (sizes x.0) ∷ [])

-- no number stands twice
unfoldable pub differ : List ℕ → Bool
differ [] = true
differ (x ∷ xs) = every (all (λ y. not (eqb y x)) xs ∷ differ xs ∷ [])

-- each number is below those after it
unfoldable pub rises : List ℕ → Bool
rises [] = true
rises (x ∷ xs) = every (all (ltb x) xs ∷ rises xs ∷ [])

-- the qubits of a kind 3, behind its angles
abbrev pub opaque_qubits : List ℕ → List ℕ
opaque_qubits r = drop (4 + 4 * get_or r 2 0) r

module _ (image : List ℕ) where
  abbrev pub is_qubit : ℕ → Bool
  is_qubit q = ltb q (qubits image)

  -- "Declared: a qubit, bit or gate below its count; a conditional's first bit plus size at most the bits; in a head, a register of its sort with an offset below its size." By the record's kind:
  unfoldable pub declared : List ℕ → Bool
  declared r =
      get_or
      -- kind 0, a head: register and offset of each qubit, then of each bit
      (every
      (all (in_register (quantum_size image) (quantum_registers image)) (pairs_of (take (2 * get_or r 1 0) (drop 3 r)))
      ∷ all (in_register (classical_size image) (classical_registers image)) (pairs_of (drop (3 + 2 * get_or r 1 0) r)) ∷ [])
      -- kind 1, a U: its qubit, behind twelve words of angles
      ∷ is_qubit (get_or r 13 0)
      -- kind 2, a CX: both qubits
      ∷ every (is_qubit (get_or r 1 0) ∷ is_qubit (get_or r 2 0) ∷ [])
      -- kind 3, an opaque gate: the gate, and its qubits
      ∷ every (ltb (get_or r 1 0) (gates image) ∷ all is_qubit (opaque_qubits r) ∷ [])
      -- kind 4, a barrier: its qubits
      ∷ all is_qubit (drop 2 r)
      -- kind 5, a measure: a qubit, and a bit
      ∷ every (is_qubit (get_or r 1 0) ∷ ltb (get_or r 2 0) (bits image) ∷ [])
      -- kind 6, a reset: its qubit
      ∷ is_qubit (get_or r 1 0)
      -- kind 7, a conditional start: first bit plus size
      ∷ leb (get_or r 1 0 + get_or r 2 0) (bits image)
      -- kind 8, its end, has no index
      ∷ true ∷ [])
      (get_or r 0 0) false

  -- where an operation may not have a qubit twice, by the record's kind
  unfoldable pub distinct : List ℕ → Bool
  distinct r =
      get_or
      -- kind 0, a head
      (true
      -- kind 1, a U
      ∷ true
      -- kind 2: a CX has two different qubits
      ∷ not (eqb (get_or r 1 0) (get_or r 2 0))
      -- kind 3: a declared opaque gate has no qubit twice
      ∷ cond (eqb (gate_body image (get_or r 1 0)) 0) (differ (opaque_qubits r)) true ∷ [])
      -- kinds 4 to 8
      (get_or r 0 0) true

-- ---- the depth

-- two words a frame
abbrev pub frames : List ℕ → ℕ
frames trace = length trace / 2

-- "The body is opened only if the frames on the stack after the push are fewer than the depth": a body is entered, and its statements run, with fewer frames; a body is cut with no fewer
unfoldable pub within : ℕ → List ℕ → Bool
within depth t = eqb (frames t) 0 || ltb (frames t) depth

-- a kind 3 of a gate with a body
unfoldable pub is_cut : List ℕ → Record → Bool
is_cut image r = every (eqb (kind r) 3 ∷ not (eqb (gate_body image (get_or (encode r) 1 0)) 0) ∷ [])

unfoldable pub at_depth : List ℕ → ℕ → Step → Bool
at_depth image depth (enter t g) = ltb (frames t) depth
at_depth image depth (refuse t r) = within depth t
at_depth image depth (write t r) = cond (is_cut image r) (leb depth (frames t)) (within depth t)

-- ---- demand 3, and what tickets of document 02 add to it

module _ (o : Outcome) where
  -- the output words written, and the records that the record reader finds in them
  abbrev pub written : List ℕ
  written = take o.output_words o.output_left

  abbrev pub records_found : List (List ℕ)
  records_found = records_in written

-- how many bodies the run of an image at a depth enters, on a lent output and a lent trace
abbrev pub bodies_entered : List ℕ → ℕ → List ℕ → List ℕ → ℕ
bodies_entered image depth out trace = (runs image depth (length out) (length trace)).entered

-- of a run of an image at a depth, on an output and a trace as they were lent, and of its outcome
pub record Claims (image : List ℕ) (depth : ℕ) (out trace : List ℕ) (o : Outcome) : Type 0 where
  -- records of each kind: no more than the tally said, and as many where the run finished
  pub most : (k : ℕ) → count k (records_found o) ≤ record_figure image depth k
  pub exactly : o.answer ≡ done → (k : ℕ) → count k (records_found o) ≡ record_figure image depth k
  -- "body entries": no more, and as many where the run finished
  pub entries_most : bodies_entered image depth out trace ≤ entry_figure image depth
  pub entries : o.answer ≡ done → bodies_entered image depth out trace ≡ entry_figure image depth
  -- words: no more than "the word bound", and an output that long is never full
  pub bounded : o.output_words ≤ word_bound image depth
  pub ample : word_bound image depth ≤ length out → (t : List ℕ) → ¬ (o.answer ≡ full t)
  -- "The number of records that a finished run tells is the figures of kinds 1 to 7 added up, kind 7's once more for the ends, and 1 for a head if any."
  pub number : o.answer ≡ done → o.records ≡ sum (map (record_figure image depth) (range 1 7)) + record_figure image depth 7 + cond (eqb (main_statements image) 0) 0 1
  -- the record reader finds as many records as the answer says, and they fill the words written
  pub read : length (records_found o) ≡ o.records
  pub filled : flat_map (λ r. r) (records_found o) ≡ written o
  -- every index written is a declared one; a CX has two different qubits, a declared opaque gate no qubit twice
  pub declares : (r : List ℕ) → Memᴰ r (records_found o) → T (declared image r)
  pub differs : (r : List ℕ) → Memᴰ r (records_found o) → T (distinct image r)
  -- document 02, One: "A barrier's qubits are written in increasing number." They are the words of a kind 4 behind its count; each is below those after it, so that none stands twice
  pub barriers_rise : (r : List ℕ) → Memᴰ r (records_found o) → get_or r 0 0 ≡ 4 → T (rises (drop 2 r))
  -- a refusal of check's has one of the numbers 1 to 8
  pub flaws : (n p : ℕ) → o.answer ≡ flawed n p → (refusal.contents ≤ n) × (n ≤ refusal.upward)
  -- the trace fits the 256 words asked for; both slices keep their length
  pub traces : o.trace_words ≤ 256
  pub lengths : (length o.output_left ≡ length out) × (length o.trace_left ≡ length trace)
  -- an image of words gives words
  pub fits : T (all (λ x. ltb x (2 ^ 64)) image) → T (all (λ x. ltb x (2 ^ 64)) (written o))

-- every angle that a step writes is in lowest terms and in range
unfoldable pub angles_of : Record → List Value
angles_of (Record.U theta phi lambda q) = theta ∷ phi ∷ lambda ∷ []
angles_of (Record.Opaque g xs qs) = xs
angles_of (Record.Head qs bs) = []
angles_of (Record.CX a b) = []
angles_of (Record.Barrier qs) = []
angles_of (Record.Measure q b) = []
angles_of (Record.Reset q) = []
angles_of (Record.ConditionalStart b n v) = []
angles_of Record.ConditionalEnd = []

pub record StepClaims (image : List ℕ) (depth : ℕ) : Type 0 where
  pub depths : (s : Step) → Memᴰ s (steps image depth) → T (at_depth image depth s)
  pub angles : (t : List ℕ) (r : Record) → Memᴰ (write t r) (steps image depth) → (x : Value) → Memᴰ x (angles_of r) → Sound x

-- ---- a barrier

-- of the qubits that a barrier of n arguments from a on holds in a frame, of main or of a body
pub record BarrierClaims (image : List ℕ) (frame : Frame) (a n : ℕ) : Type 0 where
  -- a barrier writes one record, of the qubits that it holds
  pub one_record : (ifDoes : ℕ → ℕ → ℕ → List Step) (opened : Opening) (s : ℕ)
      → visit_plain image ifDoes opened frame s (Statement.Barrier a n) ≡ write frame.trace (Record.Barrier (barrier_holds image frame a n)) ∷ []
  -- document 02, One: "A barrier's qubits are written in increasing number."
  pub rise : T (rises (barrier_holds image frame a n))
  -- it holds each qubit of each argument, and no other
  pub each : (b q : ℕ) → Memᴰ b (range a n) → Memᴰ q (argument_qubits image frame b) → Memᴰ q (barrier_holds image frame a n)
  pub no_other : (q : ℕ) → Memᴰ q (barrier_holds image frame a n) → (b : ℕ) × Memᴰ b (range a n) × Memᴰ q (argument_qubits image frame b)
  -- no order is left open: any list that rises and has the same qubits is the barrier's own
  pub fixed : (qs : List ℕ) → T (rises qs) → ((q : ℕ) → Memᴰ q qs → Memᴰ q (barrier_holds image frame a n))
      → ((q : ℕ) → Memᴰ q (barrier_holds image frame a n) → Memᴰ q qs) → qs ≡ barrier_holds image frame a n

-- ---- a result that document 01 leaves open

-- "check's statement (a bad one, with its own number and place)": the first of a list, and none before it is bad
pub record FirstOfList {A : Type 0} (number place : A → ℕ) (l : List A) (n p : ℕ) : Type 0 where
  pub before : List A
  pub entry : A
  pub behind : List A
  pub split : l ≡ before ++ entry ∷ behind
  pub sound_before : (x : A) → Memᴰ x before → number x ≡ 0
  pub its_number : number entry ≡ n
  pub its_place : place entry ≡ p
  pub is_bad : ¬ (n ≡ 0)

-- which entry that is: the contents, or the first bad register, gate entry or statement, where nothing before it is bad
abbrev pub FirstFlaw : List ℕ → ℕ → ℕ → Type 0
FirstFlaw image n p =
    ((contents_ok image ≡ false) × (n ≡ refusal.contents) × (p ≡ 0))
    ⊎ (contents_ok image ≡ true)
    × (FirstOfList (register_flaw (quantum_size image)) (quantum_register_at image) (range 0 (quantum_registers image)) n p
    ⊎ FirstOfList (register_flaw (classical_size image)) (classical_register_at image) (range 0 (classical_registers image)) n p
    ⊎ (registers image ≡ fine)
    × (FirstOfList (gate_flaw image) (gate_at image) (range 0 (gates image)) n p
    ⊎ (gate_entries image ≡ fine) × FirstOfList (λ x. flaw image x.0 x.1) (λ x. statement_at image x.1) (every_statement image) n p))

-- of an image that check refuses with a number and a place
pub record CheckClaims (image : List ℕ) (n p : ℕ) : Type 0 where
  -- one of the numbers 1 to 8
  pub number : (refusal.contents ≤ n) × (n ≤ refusal.upward)
  pub first : FirstFlaw image n p
