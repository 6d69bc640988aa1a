-- A run keeps the whole promise: where the trace is too short, where the check finds a flaw, and where the image is accepted.
use Prim.Native.Nat.{zero-le}
use native.Mathlib.Omega.{arith}
use mathlib.Core.Path.{◌≡◌, ap, subst}
use Rattle.model.specs.Check.{fine, check}
use Rattle.gate.proofs.RanStepsLaws.{ran_lengths}
use Rattle.linearize.proofs.LinearizesLaws.{accepted_run, short_trace_lem, not_accepted}
use Rattle.linearize.proofs.run.Goals as goal

pub returns-then-trace-lt-TRACE_WORDS : goal.returns-then-trace-lt-TRACE_WORDS
returns-then-trace-lt-TRACE_WORDS c = rw c.refused.ensures (short_trace_lem _ _ _ _ c.if-trace-lt-TRACE_WORDS.true)

pub run_accepted-requires : goal.run_accepted-requires
run_accepted-requires c = let if1 = c.if-trace-lt-TRACE_WORDS.false in
    record {
      in_output = rw c.start.ensures (record { inside = zero-le; fewer = zero-le });
      trace_length = omega (arith, if1);
      no_calls = ap (λ p. p.trace) c.start.ensures;
    }

pub shape_of-out : goal.shape_of-out
shape_of-out c = (ran_lengths c.run_accepted.ensures).0

pub shape_of-trace : goal.shape_of-trace
shape_of-trace c = (ran_lengths c.run_accepted.ensures).1

pub returns-in-Ok : goal.returns-in-Ok
returns-in-Ok c = let same = c.in-Ok.ensures in
    accepted_run _ _ _ _ (subst (λ words. check words ≡ fine) same c.in-Ok.accepted.accepted) (omega (arith, c.if-trace-lt-TRACE_WORDS.false)) c.start.ensures (rw same at c.run_accepted.ensures)

pub returns-in-Err : goal.returns-in-Err
returns-in-Err c = rw c.refused-in-Err.ensures (not_accepted _ _ _ _ _ (omega (arith, c.if-trace-lt-TRACE_WORDS.false)) c.in-Err.ensures)
