-- What the check accepted of a statement that opens no gate, and that what was written is what the definition says of it.
use Prim.Native.Nat.{ℕ, zero, suc, ◌≤◌}
use native.Mathlib.Omega.{arith}
use mathlib.Core.Path.{◌≡◌, subst}
use mathlib.Core.List.{List, []}
use Rattle.value.specs.declared.Value.{Value}
use Rattle.model.specs.Image.{Statement, U, CX, Barrier, Measure, Reset, statement, variables}
use Rattle.model.specs.Steps.{qubit_in, argument_qubits, write_cx, write_measure, write_reset, visit_plain}
use Rattle.model.proofs.Accepted.{few_parameters}
use Rattle.model.specs.Accepted.{Accepted, FrameOk, PlainFacts}
use Rattle.record_writer.specs.declared.Position.{Position}
use Rattle.record_writer.specs.Promise.{RunResult, WroteSteps}
use Rattle.statement.specs.declared.Site.{Site}
use Rattle.argument.specs.Frames.{scope_frame, ScopeContext, AcceptedArgument, AcceptedArguments}
use Rattle.statement.specs.Statements.{CXArguments, MeasureArguments, UStatement, u_steps, cx_steps, barrier_steps, measure_steps, reset_steps}
use Rattle.gate.specs.PlainStatement.{PlainStatement}
use Rattle.gate.specs.RanSteps.{plain_steps}

-- a body has at most 16 variables
pub few_variables : (image : List ℕ) (acc : Accepted image) (scope : ℕ) (qubits : List ℕ) → FrameOk image scope [] qubits → variables image scope ≤ 16
unfolding variables
few_variables image acc zero qubits f = omega arith
few_variables image acc (suc g) qubits f = few_parameters acc g f.0

module _ {image : List ℕ} (acc : Accepted image) {scope : ℕ} (site : Site) {qubits : List ℕ} (st : ScopeContext image scope qubits) (f : PlainStatement image scope site) where
  abbrev stands : Statement → Type 0
  stands x = statement image site.statement ≡ x

  known : {x : Statement} → stands x → PlainFacts image scope x
  known e = subst (PlainFacts image scope) e f.facts

  -- what its acceptance says

  pub u_needs : {theta phi lambda q : ℕ} → stands (U theta phi lambda q) → UStatement image scope theta phi lambda q
  u_needs e = let g = known e in
      record { few = few_variables image acc scope _ st.frame; expressions = g.4; argument = record { listed = g.3; ok = g.5 } }

  pub cx_needs : {a b : ℕ} → stands (CX a b) → CXArguments image scope a b
  cx_needs e = let g = known e in
      record { control = record { listed = g.0; ok = g.2 }; target = record { listed = g.1; ok = g.3 }; match = g.4 }

  pub barrier_needs : {a n : ℕ} → stands (Barrier a n) → AcceptedArguments image scope a n
  barrier_needs e = let g = known e in record { listed = g.0; each = g.1 }

  pub measure_needs : {q c : ℕ} → stands (Measure q c) → MeasureArguments image scope q c
  measure_needs e = let g = known e in
      record { qubits = record { listed = g.1; ok = g.3 }; bits = record { listed = g.2; ok = g.4 }; match = g.5 }

  pub reset_needs : {q : ℕ} → stands (Reset q) → AcceptedArgument image scope q
  reset_needs e = let g = known e in record { listed = g.1; ok = g.2 }

  -- what it does. The frame's angles show in a U alone.

  abbrev wrote : List Value → List ℕ → Position → RunResult → List ℕ → Type 0
  wrote angles out at r out' = WroteSteps (plain_steps image site.levels_left (scope_frame image scope angles qubits) site.statement) out at r out'

  module _ (angles : List Value) {out out' : List ℕ} {at : Position} {r : RunResult} where
    pub u_wrote : {theta phi lambda q : ℕ} → stands (U theta phi lambda q) → WroteSteps (u_steps image scope angles qubits theta phi lambda q) out at r out' → wrote angles out at r out'
    unfolding visit_plain
    u_wrote e w = rw e w

    pub cx_wrote : {a b : ℕ} → stands (CX a b) → WroteSteps (cx_steps image scope qubits a b) out at r out' → wrote angles out at r out'
    unfolding visit_plain write_cx qubit_in
    cx_wrote e w = rw e w

    pub barrier_wrote : {a n : ℕ} → stands (Barrier a n) → WroteSteps (barrier_steps image scope qubits a n) out at r out' → wrote angles out at r out'
    unfolding visit_plain argument_qubits qubit_in
    barrier_wrote e w = rw e w

    pub measure_wrote : {q c : ℕ} → stands (Measure q c) → WroteSteps (measure_steps image scope qubits q c) out at r out' → wrote angles out at r out'
    unfolding visit_plain write_measure qubit_in
    measure_wrote e w = rw e w

    pub reset_wrote : {q : ℕ} → stands (Reset q) → WroteSteps (reset_steps image scope qubits q) out at r out' → wrote angles out at r out'
    unfolding visit_plain write_reset qubit_in
    reset_wrote e w = rw e w
