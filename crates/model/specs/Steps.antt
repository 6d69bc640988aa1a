-- What a run does, as a list of steps: document 01, "Records" and "Trace".
use Rattle.std.specs.Prelude.{ℕ, zero, suc, ◌+◌, ◌-◌, cond, get_or, eqb}
use mathlib.Core.List.{List, [], ◌∷◌, ◌++◌, map, flat_map}
use Rattle.std.proofs.Math.Option.{Option, none, some}
use Rattle.float.specs.Float.{float_bits}
use Rattle.value.specs.declared.Value.{Value}
use Rattle.value.specs.declared.Evaluation.{Evaluation}
use Rattle.value.specs.declared.Evaluation.TheVariants as evaluation
use Rattle.model.specs.Lists.{range, largest, rising}
use Rattle.model.specs.Limits.{most_levels}
use Rattle.model.specs.Image.{Statement, Gate, Conditional, statement, statement_at, argument_at, expression_at, parameter, argument_register, argument_index, gate_parameters, gate_arguments, gate_body, quantum_size, classical_size, first_qubit, first_bit, quantum_registers, classical_registers, main_statements, argument_size, classical_argument_size, rounds, scope_statements}
use Rattle.model.specs.Evaluate.{evaluate, zero_value}
use Rattle.model.specs.Records.{Record}

-- "9 division by zero, 10 float without a fraction (with the f32), 11 overflow, 13 function of floats: place of the outermost expression entry that U or the call's parameter names. 12 overlap: the two arguments' places"
pub data Refusal : Type 0 where
  DivideByZero : (place : ℕ) → Refusal
  ApproximateFail : (place f32 : ℕ) → Refusal
  NumericalOverflow : (place : ℕ) → Refusal
  OverlappingRegs : (place other : ℕ) → Refusal
  FunctionOfFloats : (place : ℕ) → Refusal

-- A step writes a record, enters a body (which only the tally counts), or refuses, with the trace that stands then: "Outermost first, two words a frame: 0 for main or calling gate+1, then the call statement's place."
pub data Step : Type 0 where
  write : (trace : List ℕ) → Record → Step
  enter : (trace : List ℕ) → (gate : ℕ) → Step
  refuse : (trace : List ℕ) → Refusal → Step

-- what a statement has at hand: its scope, the trace, the parameters' values, the formals' qubits
pub record Frame : Type 0 where
  pub scope : ℕ
  pub trace : List ℕ
  pub values : List Value
  pub qubits : List ℕ

abbrev pub main_frame : Frame
main_frame = record { scope = 0; trace = []; values = []; qubits = [] }

-- how a body is opened, or not at all
abbrev pub Opening : Type 0
Opening = Option (Frame → List Step)

-- the values of some expressions, or the first refusal
pub data Values : Type 0 where
  have : List Value → Values
  lack : Refusal → Values

-- one value in front
unfoldable pub also : Evaluation → ℕ → Values → Values
also (evaluation.Value x) place (have xs) = have (x ∷ xs)
also (evaluation.Value x) place (lack r) = lack r
also evaluation.DivideByZero place v = lack (DivideByZero place)
also (evaluation.ApproximateFail f) place v = lack (ApproximateFail place (float_bits f))
also evaluation.Overflow place v = lack (NumericalOverflow place)
also evaluation.FunctionOfFloats place v = lack (FunctionOfFloats place)

-- what is done with them, or the refusal
unfoldable pub given : List ℕ → Values → (List Value → List Step) → List Step
given trace (have xs) next = next xs
given trace (lack r) next = refuse trace r ∷ []

-- n rounds in turn
unfoldable pub in_rounds : ℕ → (ℕ → List Step) → List Step
in_rounds n round = flat_map round (range 0 n)

-- "Opaque distinctness is tested each round, argument i against each j below i." The first of some arguments whose qubit is x:
unfoldable pub holder : (ℕ → ℕ) → ℕ → List ℕ → Option ℕ
holder q x [] = none
holder q x (a ∷ al) = let later = holder q x al in cond (eqb x (q a)) (some a) later

unfoldable pub clash : ℕ → Option ℕ → Option (ℕ × ℕ) → Option (ℕ × ℕ)
clash a (some b) later = some (a, b)
clash a none later = later

-- the first argument with the qubit of one before it, and the first such one
unfoldable pub overlap : (ℕ → ℕ) → List ℕ → List ℕ → Option (ℕ × ℕ)
overlap q before [] = none
overlap q before (a ∷ al) = clash a (holder q (q a) before) (overlap q (before ++ a ∷ []) al)

-- register and offset of each qubit or bit of n registers
unfoldable pub offsets_of : (ℕ → ℕ) → ℕ → List (ℕ × ℕ)
offsets_of sizes r = map (λ o. (r, o)) (range 0 (sizes r))

unfoldable pub offsets : (ℕ → ℕ) → ℕ → List (ℕ × ℕ)
offsets sizes n = flat_map (offsets_of sizes) (range 0 n)

-- a gate with a body: opened, or "A body not opened is written as kind 3 with p = 0 and no distinctness test."
unfoldable pub open_gate : Opening → Frame → ℕ → List Step
open_gate none new g = write new.trace (Record.Opaque g [] new.qubits) ∷ []
open_gate (some body) new g = enter new.trace g ∷ body new

module _ (image : List ℕ) where
  -- ---- arguments

  -- an argument's first qubit
  unfoldable pub resolve_qreg : ℕ → List ℕ → ℕ → ℕ
  resolve_qreg zero formals a = first_qubit image (argument_register image a) + (argument_index image a - 1)
  resolve_qreg (suc g) formals a = get_or formals (argument_register image a) 0

  -- its qubit in round i: "Whole registers advance in lock-step; size-1 arguments stay."
  unfoldable pub qubit_in : Frame → ℕ → ℕ → ℕ
  qubit_in frame i a = resolve_qreg frame.scope frame.qubits a + cond (eqb (argument_size image frame.scope a) 1) 0 i

  -- a classical argument's bit in round i
  unfoldable pub bit_in : ℕ → ℕ → ℕ
  bit_in i a = first_bit image (argument_register image a) + (argument_index image a - 1) + cond (eqb (classical_argument_size image a) 1) 0 i

  -- all qubits of an argument
  unfoldable pub argument_qubits : Frame → ℕ → List ℕ
  argument_qubits frame a = map (λ i. qubit_in frame i a) (range 0 (argument_size image frame.scope a))

  -- the qubits that a barrier of n arguments from a on holds. Document 01: "A barrier holds each qubit once"; document 02, One: "A barrier's qubits are written in increasing number."
  abbrev pub barrier_holds : Frame → ℕ → ℕ → List ℕ
  barrier_holds frame a n = rising (flat_map (argument_qubits frame) (range a n))

  -- ---- angles

  unfoldable pub parameter_values : List Value → List ℕ → Values
  parameter_values values [] = have []
  parameter_values values (e ∷ es) = also (evaluate image values most_levels e) (expression_at image e) (parameter_values values es)

  unfoldable pub with_values : Frame → List ℕ → (List Value → List Step) → List Step
  with_values frame es next = given frame.trace (parameter_values frame.values es) next

  -- ---- one round of each statement

  unfoldable pub write_u : Frame → ℕ → List Value → ℕ → List Step
  write_u frame q xs i = write frame.trace (Record.U (get_or xs 0 zero_value) (get_or xs 1 zero_value) (get_or xs 2 zero_value) (qubit_in frame i q)) ∷ []

  -- "for a CX first then second"
  unfoldable pub write_cx : Frame → ℕ → ℕ → ℕ → List Step
  write_cx frame a b i =
      cond (eqb (qubit_in frame i a) (qubit_in frame i b))
      (refuse frame.trace (OverlappingRegs (argument_at image a) (argument_at image b)) ∷ [])
      (write frame.trace (Record.CX (qubit_in frame i a) (qubit_in frame i b)) ∷ [])

  -- a record, unless two arguments overlap: "for an opaque gate i then j"
  unfoldable pub distinctly : List ℕ → Option (ℕ × ℕ) → Record → List Step
  distinctly trace none r = write trace r ∷ []
  distinctly trace (some ab) r = refuse trace (OverlappingRegs (argument_at image ab.0) (argument_at image ab.1)) ∷ []

  unfoldable pub write_opaque : Frame → ℕ → List ℕ → List Value → ℕ → List Step
  write_opaque frame g al xs i = distinctly frame.trace (overlap (qubit_in frame i) [] al) (Record.Opaque g xs (map (qubit_in frame i) al))

  unfoldable pub write_measure : Frame → ℕ → ℕ → ℕ → List Step
  write_measure frame q c i = write frame.trace (Record.Measure (qubit_in frame i q) (bit_in i c)) ∷ []

  unfoldable pub write_reset : Frame → ℕ → ℕ → List Step
  write_reset frame q i = write frame.trace (Record.Reset (qubit_in frame i q)) ∷ []

  -- "A call pushes a frame."
  unfoldable pub push_frame : Frame → ℕ → ℕ → List ℕ → List Value → ℕ → Frame
  push_frame frame s g al xs i =
      record { scope = suc g; trace = frame.trace ++ frame.scope ∷ statement_at image s ∷ []; values = xs; qubits = map (qubit_in frame i) al }

  unfoldable pub visit_gate : Opening → Frame → ℕ → ℕ → List ℕ → List Value → ℕ → List Step
  visit_gate opened frame s g al xs i = cond (eqb (gate_body image g) 0) (write_opaque frame g al xs i) (open_gate opened (push_frame frame s g al xs i) g)

  -- ---- statements

  -- Statement s. What an if does is handed in, since an if holds no other if. "Parameters are evaluated before anything else of a call. Without arguments nothing is written, opaque or not."
  unfoldable pub visit_plain : (ℕ → ℕ → ℕ → List Step) → Opening → Frame → ℕ → Statement → List Step
  visit_plain ifDoes opened frame s (Statement.U theta phi lambda q) =
      with_values frame (theta ∷ phi ∷ lambda ∷ []) λ xs. in_rounds (rounds image frame.scope (q ∷ [])) (write_u frame q xs)
  visit_plain ifDoes opened frame s (Statement.CX a b) = in_rounds (rounds image frame.scope (a ∷ b ∷ [])) (write_cx frame a b)
  visit_plain ifDoes opened frame s (Gate g p a) =
      with_values frame (map (parameter image) (range p (gate_parameters image g))) λ xs.
      in_rounds (rounds image frame.scope (range a (gate_arguments image g))) (visit_gate opened frame s g (range a (gate_arguments image g)) xs)
  visit_plain ifDoes opened frame s (Statement.Barrier a n) = write frame.trace (Record.Barrier (barrier_holds frame a n)) ∷ []
  visit_plain ifDoes opened frame s (Statement.Measure q c) = in_rounds (largest (argument_size image frame.scope q ∷ classical_argument_size image c ∷ [])) (write_measure frame q c)
  visit_plain ifDoes opened frame s (Statement.Reset q) = in_rounds (rounds image frame.scope (q ∷ [])) (write_reset frame q)
  visit_plain ifDoes opened frame s (Conditional r v t) = ifDoes r v t
  visit_plain ifDoes opened frame s Statement.Unknown = []

  -- "An if writes kind 7, then what its inner statement writes in main, then kind 8."
  unfoldable pub visit_conditional : Opening → Frame → ℕ → ℕ → ℕ → List Step
  visit_conditional opened frame r v t =
      write frame.trace (Record.ConditionalStart (first_bit image r) (classical_size image r) v)
      ∷ (visit_plain (λ r v t. []) opened frame t (statement image t) ++ write frame.trace Record.ConditionalEnd ∷ [])

  unfoldable pub visit_statement : Opening → Frame → ℕ → List Step
  visit_statement opened frame s = visit_plain (visit_conditional opened frame) opened frame s (statement image s)

  -- the statements of the frame's scope, in order
  unfoldable pub visit_body : Opening → Frame → List Step
  visit_body opened frame = flat_map (visit_statement opened frame) (scope_statements image frame.scope)

  -- bodies opened n deep
  unfoldable pub opening : ℕ → Opening
  opening zero = none
  opening (suc n) = some (visit_body (opening n))

  -- ---- the program

  unfoldable pub head_record : Record
  head_record = Record.Head (offsets (quantum_size image) (quantum_registers image)) (offsets (classical_size image) (classical_registers image))

  -- "The head comes with the first main statement; none, no head." "The body is opened only if the frames on the stack after the push are fewer than the depth; depths 0 and 1 open none": depth - 1 deep. proofs/Depth.antt has the rule in these words.
  unfoldable pub steps : ℕ → List Step
  steps depth = cond (eqb (main_statements image) 0) [] (write [] head_record ∷ visit_body (opening (depth - 1)) main_frame)
