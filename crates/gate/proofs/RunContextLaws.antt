-- What is known where a statement, a call and a body run each other.
use Prim.Native.Nat.{ℕ, suc, ◌+◌, ◌-◌, ◌≤◌, ◌<◌}
use native.Mathlib.Numerals.{add-one}
use native.Mathlib.Omega.{arith}
use mathlib.Core.Path.{◌≡◌, refl, sym, subst}
use mathlib.Core.List.{List}
use lib.ListN.{length}
use Rattle.value.specs.declared.Value.{Value}
use Rattle.model.specs.Lists.{range}
use Rattle.model.specs.Image.{statement, gates, scope_statements}
use Rattle.model.specs.Steps.{Step}
use Rattle.model.specs.Accepted.{Accepted, PlainFacts}
use Rattle.std.specs.declared.ops.Range.{Range}
use Rattle.image.specs.Reading.{StatementsOf}
use Rattle.record_writer.specs.declared.Position.{Position}
use Rattle.std.specs.Prelude.{Ok}
use Rattle.record_writer.specs.Promise.{RunResult, InOutput, WroteSteps, SoundAngles}
use Rattle.record_writer.proofs.WroteStepsLaws.{wrote_open}
use Rattle.expression.specs.declared.KeptValue.{KeptValue}
use Rattle.expression.specs.KeptValues.{ConstantsKept, AngleContext}
use Rattle.argument.specs.Frames.{scope_frame, ScopeContext}
use Rattle.statement.proofs.LoopedLaws.{Looped}
use Rattle.kept_body.specs.KeptBodies.{BodiesKept}
use Rattle.kept_body.proofs.KeptBodiesLaws.{bodies_later}
use Rattle.gate.specs.RunContext.{nested, most_trace_words, StatementContext, RunContext, TraceRoom}
use Rattle.gate.specs.PlainStatement.{PlainStatement}
use Rattle.gate.specs.RanSteps.{RanSteps, plain_steps}
use Rattle.gate.proofs.RanStepsLaws.{ran_wrote}
use Rattle.gate.proofs.OpenGateLaws.{body_facts, statement_steps_lem, body_statement}

pub holds_body : (image : List ℕ) (g : ℕ) {r : Range ℕ} → StatementsOf image (g + 1) r → scope_statements image (suc g) ≡ range r.start (r.end - r.start)
holds_body image g h = rw (add-one g) at h.statements_are

-- the calls that may nest in a body
pub nested_in_body : (g : ℕ) → nested (g + 1) ≡ g
nested_in_body g = rw (add-one g) refl

module _ {image : List ℕ} where
  -- the frame's angles, beside the rest of a statement's context
  pub with_angles : {register-starts : List ℕ} {kept-values : List KeptValue} {out : List ℕ} {at : Position} {angles : List Value} → StatementContext image register-starts kept-values out at → SoundAngles angles → AngleContext image angles kept-values
  with_angles c a = record { sound = a; constants = c.constants }

  -- other values are kept, and another position has as many words
  pub context_kept : {register-starts : List ℕ} {kept-values kept-values' : List KeptValue} {kept-bodies out trace : List ℕ} {at p : Position} → RunContext image register-starts kept-values kept-bodies out trace at → ConstantsKept image kept-values' → InOutput out p → p.words ≡ at.words
      → RunContext image register-starts kept-values' kept-bodies out trace p
  context_kept r f o e =
      record {
        context = record { with_bits = r.context.with_bits; constants = f; in_output = o };
        bodies = rw e r.bodies;
        trace_length = r.trace_length;
      }

  -- where a loop over statements or rounds has come to
  pub context_on : {register-starts : List ℕ} {kept-values kept-values' : List KeptValue} {kept-bodies kept-bodies' out trace out' trace' : List ℕ} {at position : Position} {g : ℕ → List Step} {n i : ℕ} → RunContext image register-starts kept-values kept-bodies out trace at → Looped g n out at i out' position → trace' ≡ trace → ConstantsKept image kept-values' → BodiesKept image kept-bodies' out' position.words
      → RunContext image register-starts kept-values' kept-bodies' out' trace' position
  context_on r k e f b =
      record {
        context = record { with_bits = r.context.with_bits; constants = f; in_output = k.in_output };
        bodies = b;
        trace_length = subst (λ (t : List ℕ). most_trace_words ≤ length t) (sym e) r.trace_length;
      }

  -- the scope of a body, whose number is its gate's and 1
  pub scope_of_body : {g : ℕ} {qubits : List ℕ} → ScopeContext image (suc g) qubits → ScopeContext image (g + 1) qubits
  scope_of_body {g} st = rw (add-one g) st

  pub statement_in_body : (acc : Accepted image) {g s : ℕ} {r : Range ℕ} → g < gates image → StatementsOf image (g + 1) r → r.start ≤ s → s < r.end → (levels-left : ℕ)
      → PlainStatement image (g + 1) (record { statement = s; levels_left = levels-left })
  statement_in_body acc {g} {s} {r} h k from below levels-left =
      let e : r.start + (s - r.start) ≡ s = omega arith in
      record {
        listed = omega (arith, below, k.listed);
        facts = rw (add-one g) (rw e at (body_facts image acc g r.start (r.end - r.start) (s - r.start) h (holds_body image g k) (omega arith)));
      }

pub step_in_body : (image : List ℕ) (g levels-left : ℕ) (angles : List Value) (q : List ℕ) (s : ℕ) → PlainFacts image (g + 1) (statement image s)
    → plain_steps image (levels-left - 1) (scope_frame image (g + 1) angles q) s ≡ body_statement image g levels-left angles q s
step_in_body image g levels-left angles q s f = rw (add-one g) (statement_steps_lem image (suc g) (levels-left - 1) (scope_frame image (suc g) angles q) s (rw (add-one g) at f))

-- ---- after what is done

pub ran_open : {ss : List Step} {out out' trace trace' : List ℕ} {at p : Position} {r : RunResult} → InOutput out at → RanSteps ss out at trace r out' trace' → r ≡ Ok p → InOutput out' p
ran_open o w e = wrote_open o (ran_wrote w e).0

pub context_wrote : {image register-starts : List ℕ} {ss : List Step} {kept-values : List KeptValue} {kept-bodies out out' trace : List ℕ} {at p : Position} {r : RunResult}
    → RunContext image register-starts kept-values kept-bodies out trace at → WroteSteps ss out at r out' → r ≡ Ok p → RunContext image register-starts kept-values kept-bodies out' trace p
context_wrote {ss = ss} {out} {out'} {at = at} {p} d w e =
    let v : WroteSteps ss out at (Ok p) out' = rw e at w in
    record {
      context = record { with_bits = d.context.with_bits; constants = d.context.constants; in_output = wrote_open d.context.in_output v };
      bodies = bodies_later v.plays d.bodies;
      trace_length = d.trace_length;
    }

-- and the trace has room as before
pub room_wrote : {ss : List Step} {out out' : List ℕ} {at p : Position} {r : RunResult} (n : ℕ) → TraceRoom at n → WroteSteps ss out at r out' → r ≡ Ok p → TraceRoom p n
room_wrote {ss} {out} {out'} {at} {p} n room w e =
    let v : WroteSteps ss out at (Ok p) out' = rw e at w in
    omega (arith, room, v.level)
