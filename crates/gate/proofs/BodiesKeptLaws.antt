-- The bodies that are kept, where a gate is opened: what copying and keeping one ask for, and what they say of the run.
use Prim.Native.Nat.{ℕ, suc}
use native.Mathlib.Omega.{arith}
use mathlib.Core.Path.{◌≡◌, refl, subst}
use mathlib.Core.List.{List}
use Rattle.value.specs.declared.Value.{Value}
use Rattle.model.specs.Image.{gates, variables}
use Rattle.model.specs.Accepted.{Accepted}
use Rattle.model.proofs.Accepted.{few_parameters, few_arguments}
use Rattle.model.specs.Steps.{Step}
use Rattle.record_writer.specs.declared.Position.{Position}
use Rattle.std.specs.Prelude.{Ok, Err}
use Rattle.record_writer.specs.Promise.{RunResult, position_of, WroteStepsTo}
use Rattle.expression.specs.declared.KeptValue.{KeptValue}
use Rattle.argument.specs.Frames.{scope_qubits, ScopeContext}
use Rattle.statement.specs.declared.Call.{Call}
use Rattle.kept_body.specs.Slot.{slot_width}
use Rattle.kept_body.specs.KeptBodies.{BodiesKept, CalledGate, called_steps, SlotGiven, CopyGiven, BodyRun}
use Rattle.kept_body.proofs.KeptBodiesLaws.{slot_ends, bodies_later, slot_stands}
use Rattle.gate.specs.RunContext.{RunContext}
use Rattle.gate.specs.RanSteps.{RanSteps, opened_steps, Popped}
use Rattle.gate.specs.CallStatement.{CallStatement}
use Rattle.gate.proofs.RanStepsLaws.{wrote_ran, ran_wrote, ran_steps}

-- ---- after what was played

pub bodies_ran : {image kept-bodies : List ℕ} {ss : List Step} {out out' trace trace' : List ℕ} {at : Position} {r : RunResult} → RanSteps ss out at trace r out' trace' → BodiesKept image kept-bodies out at.words → BodiesKept image kept-bodies out' (position_of r).words
bodies_ran w b = bodies_later w.plays b

-- an answer that is known
pub bodies_at : {image kept-bodies out : List ℕ} {r r' : RunResult} → r ≡ r' → BodiesKept image kept-bodies out (position_of r).words → BodiesKept image kept-bodies out (position_of r').words
bodies_at {image} {kept-bodies} {out} e b = subst (λ (x : RunResult). BodiesKept image kept-bodies out (position_of x).words) e b

-- a call that comes back
pub bodies_popped : {image kept-bodies out : List ℕ} (scope : ℕ) (call : Call) (at : Position) (answer : RunResult) (trace : List ℕ) (r : RunResult) (trace' : List ℕ) → Popped image scope call at answer trace r trace' → BodiesKept image kept-bodies out (position_of answer).words → BodiesKept image kept-bodies out (position_of r).words
bodies_popped scope call at (Ok next) trace r trace' p b = rw p.0 b
bodies_popped scope call at (Err e) trace r trace' p b = rw p.0 b

-- ---- an output that is another's

pub ran_same_output : {ss : List Step} {out out₁ out' trace trace' : List ℕ} {at : Position} {r : RunResult} → out₁ ≡ out → RanSteps ss out₁ at trace r out' trace' → RanSteps ss out at trace r out' trace'
ran_same_output e w = rw (← e) w

pub context_same : {image register-starts : List ℕ} {kept-values : List KeptValue} {kept-bodies out out₁ trace : List ℕ} {at : Position} → out₁ ≡ out → RunContext image register-starts kept-values kept-bodies out trace at → RunContext image register-starts kept-values kept-bodies out₁ trace at
context_same e r = rw e r

-- ---- a called gate

pub called_gate : {image : List ℕ} {scope : ℕ} {call : Call} → Accepted image → CallStatement image scope call → CalledGate image call
called_gate acc c = record { accepted = acc; listed = c.gate_listed; parameters_are = c.parameters_are; arguments_are = c.arguments_are }

module _ {image : List ℕ} {call : Call} (c : CalledGate image call) {qubits : List ℕ} (st : ScopeContext image (suc call.gate) qubits) where
  pub slot_given : {kept-bodies out : List ℕ} {n : ℕ} → BodiesKept image kept-bodies out n → SlotGiven kept-bodies call qubits
  slot_given {kept-bodies} b =
      record {
        few_gates = omega (arith, c.listed, c.accepted.few_gates);
        few_parameters = omega (arith, c.parameters_are, few_parameters c.accepted call.gate c.listed);
        given = record { sixteen = st.sixteen; few = omega (arith, c.arguments_are, few_arguments c.accepted call.gate c.listed) };
        narrow = b.wide.narrow;
        wide = omega (arith, b.wide.each call.gate c.listed, c.parameters_are, c.arguments_are);
        room = omega (arith, b.room, slot_ends (slot_width kept-bodies) call.gate (gates image) c.listed);
      }

  pub copy_given : {register-starts : List ℕ} {kept-values : List KeptValue} {kept-bodies out trace : List ℕ} {at : Position} → RunContext image register-starts kept-values kept-bodies out trace at → CopyGiven kept-bodies out call qubits at
  copy_given r =
      record {
        slot = slot_given r.bodies;
        stands = λ k. slot_stands _ c.accepted c.listed (r.bodies.each call.gate c.listed k);
        in_output = r.context.in_output;
      }

-- the steps of its body, in the words of the table and in those of the cycle
called_steps_lem : {image : List ℕ} {call : Call} → CalledGate image call → (angles : List Value) (qubits : List ℕ) → called_steps image call angles qubits ≡ opened_steps image call angles qubits
unfolding variables scope_qubits
called_steps_lem c angles qubits = rw (c.parameters_are, c.arguments_are) refl

pub copied_ran : {image : List ℕ} {call : Call} (angles : List Value) (qubits : List ℕ) {out trace : List ℕ} {at next : Position} {out' : List ℕ} → CalledGate image call → WroteStepsTo (called_steps image call angles qubits) out at next out'
    → RanSteps (opened_steps image call angles qubits) out at trace (Ok next) out' trace
copied_ran angles qubits {trace = trace} c w = ran_steps (called_steps_lem c angles qubits) (wrote_ran trace w)

pub body_run : {image register-starts : List ℕ} {kept-values : List KeptValue} {kept-bodies qubits out trace : List ℕ} {at : Position} {call : Call} {angles : List Value} {out' trace' : List ℕ} {next : Position}
    → RunContext image register-starts kept-values kept-bodies out trace at → CalledGate image call → RanSteps (opened_steps image call angles qubits) out at trace (Ok next) out' trace'
    → BodyRun image call angles qubits out at next out'
body_run {qubits = qubits} {angles = angles} r c w =
    record { called = c; inside = r.context.in_output.inside; wrote = rw (called_steps_lem c angles qubits) (ran_wrote w refl).0 }
