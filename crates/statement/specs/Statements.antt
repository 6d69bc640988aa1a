-- What the statements that open no body are accepted with, and the steps that they promise, in the model's words.
use Rattle.std.specs.Prelude.{ℕ, ◌+◌, ◌≤◌, ◌<◌, ◌≡◌, Bool, true, false, cond, T, eqb, get_or, take}
use Rattle.std.specs.Prelude as Prelude
use Rattle.std.specs.Prelude.{Some, None}
use mathlib.Core.List.{List, [], ◌∷◌, ◌++◌, map, flat_map, Memᴰ}
use Rattle.std.proofs.Math.Option.{Option, none, some}
use Rattle.value.specs.declared.Value.{Value}
use Rattle.model.specs.Limits.{most_elements, most_parameters, most_levels}
use Rattle.model.specs.Lists.{range, largest, all}
use Rattle.model.specs.Records.{Record}
use Rattle.model.specs.Image.{argument_at, argument_size, classical_argument_size, rounds, variables}
use Rattle.model.specs.Check.{matching, expression_ok}
use Rattle.model.specs.Steps.{Step, write, refuse, Refusal, overlap, distinctly, in_rounds, qubit_in, write_reset, write_measure, write_cx, write_opaque, write_u, with_values, argument_qubits, barrier_holds}
use Rattle.model.specs.All.{All}
use Rattle.record_writer.specs.declared.Position.{Position}
use Rattle.record_writer.specs.declared.LinearizeErrorKind.TheVariants as kind
use Rattle.record_writer.specs.declared.LinearizeError.{LinearizeError}
use Rattle.record_writer.specs.Promise.{RunResult, WroteSteps}
use Rattle.argument.specs.Frames.{scope_frame, number_in_round, AcceptedArgument, AcceptedBits}
use Rattle.argument.specs.declared.Argument.{Argument}
use Rattle.statement.specs.declared.Call.{Call}

-- ---- what the check accepted of a statement

-- the two arguments of a CX: each is accepted, and their sizes match
pub record CXArguments (image : List ℕ) (scope a b : ℕ) : Type 0 where
  pub control : AcceptedArgument image scope a
  pub target : AcceptedArgument image scope b
  pub match : T (matching (argument_size image scope a ∷ argument_size image scope b ∷ []))

-- the two arguments of a measurement: each is accepted, and their sizes match
pub record MeasureArguments (image : List ℕ) (scope q c : ℕ) : Type 0 where
  pub qubits : AcceptedArgument image scope q
  pub bits : AcceptedBits image c
  pub match : T (matching (argument_size image scope q ∷ classical_argument_size image c ∷ []))

-- a U: its three expressions are accepted with the variables of its scope, which are few, and so is its argument
pub record UStatement (image : List ℕ) (scope theta phi lambda q : ℕ) : Type 0 where
  pub few : variables image scope ≤ most_parameters
  pub expressions : T (all (expression_ok image (variables image scope) most_levels) (theta ∷ phi ∷ lambda ∷ []))
  pub argument : AcceptedArgument image scope q

-- ---- the steps of a statement, from the qubits of its scope's frame

-- a reset of each qubit of argument a
abbrev pub reset_steps : List ℕ → ℕ → List ℕ → ℕ → List Step
reset_steps image scope qubits a = in_rounds (rounds image scope (a ∷ [])) (write_reset image (scope_frame image scope [] qubits) a)

-- a measurement of each qubit of argument q to a bit of argument c
abbrev pub measure_steps : List ℕ → ℕ → List ℕ → ℕ → ℕ → List Step
measure_steps image scope qubits q c =
    in_rounds (largest (argument_size image scope q ∷ classical_argument_size image c ∷ [])) (write_measure image (scope_frame image scope [] qubits) q c)

-- a CX of each pair of qubits of two arguments
abbrev pub cx_steps : List ℕ → ℕ → List ℕ → ℕ → ℕ → List Step
cx_steps image scope qubits control target = in_rounds (rounds image scope (control ∷ target ∷ [])) (write_cx image (scope_frame image scope [] qubits) control target)

-- how many rounds a call of a scope has
abbrev pub call_rounds : List ℕ → ℕ → Call → ℕ
call_rounds image scope call = rounds image scope (range call.argument call.arguments)

-- an opaque gate in each round of a call, with these angles
abbrev pub opaque_steps : List ℕ → ℕ → List ℕ → Call → List Value → List Step
opaque_steps image scope qubits call angles =
    in_rounds (call_rounds image scope call) (write_opaque image (scope_frame image scope [] qubits) call.gate (range call.argument call.arguments) angles)

-- a gate whose body is not opened, in a round of a call
unfoldable pub cut_round : List ℕ → ℕ → List ℕ → Call → ℕ → List Step
cut_round image scope qubits call i =
    write [] (Record.Opaque call.gate [] (map (qubit_in image (scope_frame image scope [] qubits) i) (range call.argument call.arguments))) ∷ []

-- the gate in each round of the call
abbrev pub cut_steps : List ℕ → ℕ → List ℕ → Call → List Step
cut_steps image scope qubits call = in_rounds (call_rounds image scope call) (cut_round image scope qubits call)

-- the qubits of n arguments from a on
abbrev pub qubits_of_all : List ℕ → ℕ → List ℕ → ℕ → ℕ → List ℕ
qubits_of_all image scope qubits a n = flat_map (argument_qubits image (scope_frame image scope [] qubits)) (range a n)

-- a barrier of the qubits of n arguments from a on
abbrev pub barrier_steps : List ℕ → ℕ → List ℕ → ℕ → ℕ → List Step
barrier_steps image scope qubits a n = write [] (Record.Barrier (barrier_holds image (scope_frame image scope [] qubits) a n)) ∷ []

-- a U of the qubit that an argument has in a round, with the angles given
unfoldable pub u_round : Argument → Value → Value → Value → ℕ → List Step
u_round x theta phi lambda i = write [] (Record.U theta phi lambda (number_in_round x i)) ∷ []

-- a U of each qubit of an argument, with the angles of three expressions
abbrev pub u_steps : List ℕ → ℕ → List Value → List ℕ → ℕ → ℕ → ℕ → ℕ → List Step
u_steps image scope angles qubits theta phi lambda q =
    let frame = scope_frame image scope angles qubits in
    with_values image frame (theta ∷ phi ∷ lambda ∷ []) λ xs. in_rounds (rounds image scope (q ∷ [])) (write_u image frame q xs)

-- the qubits of an argument in its rounds are small numbers
abbrev pub FewQubits : Argument → Type 0
FewQubits x = (x.size ≤ most_elements) × ((i : ℕ) → i < x.size → number_in_round x i < most_elements)

-- ---- one round of a CX

-- a CX of two qubits of arguments a and b, if they differ
unfoldable pub apart_cx : List ℕ → ℕ → ℕ → ℕ → ℕ → List Step
apart_cx image a b p q = cond (eqb p q) (refuse [] (Refusal.OverlappingRegs (argument_at image a) (argument_at image b)) ∷ []) (write [] (Record.CX p q) ∷ [])

-- the refusal of a CX whose arguments a and b have one qubit
abbrev pub overlap_at_cx : List ℕ → ℕ → ℕ → Position → LinearizeError
overlap_at_cx image a b at = record { kind = kind.OverlappingRegs (argument_at image a) (argument_at image b); at = at }

-- ---- overlaps

-- an overlap of two of the arguments from a on, by the numbers of the two
abbrev pub overlap_at : ℕ → Prelude.Option (ℕ × ℕ) → Option (ℕ × ℕ)
overlap_at a None = none
overlap_at a (Some p) = some (a + p.0, a + p.1)

-- the two of an overlap are among n arguments
abbrev pub Inside : ℕ → Prelude.Option (ℕ × ℕ) → Type 0
Inside n None = Unit {0}
Inside n (Some p) = (p.0 < n) × (p.1 < n)

-- where some words are the qubits of n arguments, whichever these are, their overlap is found
pub record Overlaps (q : List ℕ) (n : ℕ) (r : Prelude.Option (ℕ × ℕ)) : Type 0 where
  pub finds : (f : ℕ → ℕ) (a : ℕ) → ((j : ℕ) → j < n → f (a + j) ≡ get_or q j 0) → overlap f [] (range a n) ≡ overlap_at a r
  pub inside : Inside n r

-- no entry before n is x
abbrev pub NoneIs : List ℕ → ℕ → ℕ → Type 0
NoneIs q x n = (j : ℕ) → j < n → ¬ (get_or q j 0 ≡ x)

-- the first entry before entry i that equals it
abbrev pub FirstEqual : List ℕ → ℕ → Prelude.Option ℕ → Type 0
FirstEqual q i None = NoneIs q (get_or q i 0) i
FirstEqual q i (Some r) = (r < i) × (get_or q r 0 ≡ get_or q i 0) × NoneIs q (get_or q i 0) r

-- ---- marks

-- the marked numbers are those of a list
pub record Marks (marks : List Bool) (l : List ℕ) : Type 0 where
  pub only : (q : ℕ) → get_or marks q false ≡ true → Memᴰ q l
  pub each : (q : ℕ) → Memᴰ q l → get_or marks q false ≡ true

-- some numbers were marked, whichever were before
pub record MarksAdded (before : List Bool) (l : List ℕ) (after : List Bool) : Type 0 where
  pub marks : (m : List ℕ) → Marks before m → Marks after (m ++ l)

-- some numbers were marked, and all of them are below an end
pub record MarksCover (marks : List Bool) (l : List ℕ) (marks' : List Bool) (end : ℕ) : Type 0 where
  pub adds : MarksAdded marks l marks'
  pub below : All (λ q. q < end) l
  pub few : end ≤ most_elements

-- ---- opaque gates

-- a round of an opaque gate with these qubits, whichever the arguments are that have them
pub record WroteDistinct (image : List ℕ) (gate : ℕ) (angles : List Value) (q : List ℕ) (a n : ℕ) (out : List ℕ) (at : Position) (r : RunResult) (out' : List ℕ) : Type 0 where
  pub wrote : (f : ℕ → ℕ) → ((j : ℕ) → j < n → f (a + j) ≡ get_or q j 0) → WroteSteps (distinctly image [] (overlap f [] (range a n)) (Record.Opaque gate angles (take n q))) out at r out'
