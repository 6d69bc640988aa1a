-- The table of bodies that were run to their end, a slot for each gate, and what it says of a later call.
use Rattle.std.specs.Prelude.{ℕ, ◌+◌, ◌-◌, ◌*◌, ◌≤◌, ◌<◌, ◌≡◌, Bool, false, ◌&&◌, List, [], T, leb, length, take, Option, Some, None}
use Rattle.value.specs.declared.Value.{Value}
use Rattle.model.specs.Limits.{most_gates, most_parameters}
use Rattle.model.specs.Image.{gates, gate_parameters, gate_arguments}
use Rattle.model.specs.Accepted.{Accepted}
use Rattle.model.specs.Claims.{differ}
use Rattle.model.specs.Steps.{Step}
use Rattle.record_writer.specs.declared.Position.{Position}
use Rattle.record_writer.specs.Promise.{InOutput, QubitsGiven, WroteStepsTo}
use Rattle.statement.specs.declared.Call.{Call}
use Rattle.copy.specs.BodyKept.{body_steps, BodyKept}
use Rattle.kept_body.specs.Slot.{slot_need, most_slot_words, slot_width, slot_of, WideEnough, slot_levels, slot_start, slot_words, slot_records, slot_qubits, slot_angles, same_body, may_be_copied, SlotStands, SlotFilled}

-- a slot keeps a body of gate g: it was run to its end, its records stand in the output, and if there are any it was run with different qubits
pub record SlotKept (image slot out : List ℕ) (at g : ℕ) : Type 0 where
  pub body : BodyKept image out at g (slot_levels slot) (slot_angles slot (gate_parameters image g)) (slot_qubits slot (gate_parameters image g) (gate_arguments image g)) (slot_start slot) (slot_words slot) (slot_records slot)
  pub distinct : ¬ (slot_words slot ≡ 0) → T (differ (slot_qubits slot (gate_parameters image g) (gate_arguments image g)))

-- the table has a slot for each gate, wide enough for its body, and each slot keeps a body of its gate or none
pub record BodiesKept (image table out : List ℕ) (at : ℕ) : Type 0 where
  pub wide : WideEnough image (slot_width table)
  pub room : 1 + slot_width table * gates image ≤ length table
  pub each : (g : ℕ) → g < gates image → ¬ (slot_levels (slot_of table g) ≡ 0) → SlotKept image (slot_of table g) out at g

-- a call of a gate of an accepted image
pub record CalledGate (image : List ℕ) (call : Call) : Type 0 where
  pub accepted : Accepted image
  pub listed : call.gate < gates image
  pub parameters_are : call.parameters ≡ gate_parameters image call.gate
  pub arguments_are : call.arguments ≡ gate_arguments image call.gate

-- the steps of a call's body, with as many of some angles and qubits as its gate has
abbrev pub called_steps : List ℕ → Call → List Value → List ℕ → List Step
called_steps image call angles qubits = body_steps image call.site.levels_left [] call.gate (take call.parameters angles) (take call.arguments qubits)

-- the table has a slot for the gate of a call, wide enough for the call's body, whose qubits are given
pub record SlotGiven (table : List ℕ) (call : Call) (qubits : List ℕ) : Type 0 where
  pub few_gates : call.gate < most_gates
  pub few_parameters : call.parameters ≤ most_parameters
  pub given : QubitsGiven qubits call.arguments
  pub narrow : slot_width table ≤ most_slot_words
  pub wide : slot_need call.parameters call.arguments ≤ slot_width table
  pub room : 1 + slot_width table * call.gate + slot_width table ≤ length table

-- what the slot of a call's gate keeps, if it keeps anything, stands in the output
pub record CopyGiven (table out : List ℕ) (call : Call) (qubits : List ℕ) (at : Position) : Type 0 where
  pub slot : SlotGiven table call qubits
  pub stands : ¬ (slot_levels (slot_of table call.gate) ≡ 0) → SlotStands (slot_of table call.gate) out at.words
  pub in_output : InOutput out at

-- the slot of a call's gate keeps the call's body, there is room for its words, and it may be copied for the call's qubits
abbrev pub copies : List ℕ → List ℕ → Call → List Value → List ℕ → Position → Bool
copies slot out call angles qubits at =
    same_body slot call angles
    && (leb (at.words + slot_words slot) (length out)
    && may_be_copied (slot_words slot) (take call.arguments qubits))

-- a body was copied, and to do so was to play its steps; or it was not, and nothing was written
pub record BodyCopied (image : List ℕ) (call : Call) (angles : List Value) (qubits out : List ℕ) (at : Position) (r : Option Position) (out' : List ℕ) : Type 0 where
  pub wrote : (next : Position) → r ≡ Some next → WroteStepsTo (called_steps image call angles qubits) out at next out'
  pub untouched : r ≡ None → out' ≡ out

-- a body that was run between two positions is put into the slot of its gate if it may be copied, and nothing else changes
pub record BodyPut (table : List ℕ) (call : Call) (angles : List Value) (qubits : List ℕ) (at next : Position) (table' : List ℕ) : Type 0 where
  pub filled : T (may_be_copied (next.words - at.words) (take call.arguments qubits)) → SlotFilled (slot_of table' call.gate) call.site.levels_left at.words (next.words - at.words) (next.records - at.records) call angles qubits
  pub untouched : may_be_copied (next.words - at.words) (take call.arguments qubits) ≡ false → table' ≡ table
  pub others : (g : ℕ) → ¬ (g ≡ call.gate) → slot_of table' g ≡ slot_of table g

-- the body of a call was run to its end between two positions
pub record BodyRun (image : List ℕ) (call : Call) (angles : List Value) (qubits out : List ℕ) (at next : Position) (out' : List ℕ) : Type 0 where
  pub called : CalledGate image call
  pub inside : at.words ≤ length out
  pub wrote : WroteStepsTo (called_steps image call angles qubits) out at next out'
