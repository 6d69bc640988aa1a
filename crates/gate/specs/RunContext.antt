-- Where the statements of a scope are run.
use Rattle.std.specs.Prelude.{ℕ, zero, suc, ◌+◌, ◌*◌, ◌≤◌, List, length}
use Rattle.value.specs.declared.Value.{Value}
use Rattle.model.specs.Limits.{most_gates}
use Rattle.image.specs.RegisterStarts.{RegisterTable}
use Rattle.record_writer.specs.declared.Position.{Position}
use Rattle.record_writer.specs.Promise.{InOutput, SoundAngles}
use Rattle.expression.specs.declared.KeptValue.{KeptValue}
use Rattle.expression.specs.KeptValues.{ConstantsKept}
use Rattle.kept_body.specs.KeptBodies.{BodiesKept}

-- the calls that may nest in a scope: each goes to a gate of smaller number
abbrev pub nested : ℕ → ℕ
nested zero = most_gates
nested (suc g) = g

-- the words of a trace that has room for every call: two for each
abbrev pub most_trace_words : ℕ
most_trace_words = 2 * most_gates

-- where a statement is run that opens no gate: the table tells where the registers start, the values kept are those of constants, and the position lies in the output
pub record StatementContext (image register-starts : List ℕ) (kept-values : List KeptValue) (out : List ℕ) (at : Position) : Type 0 where
  pub with_bits : RegisterTable image register-starts
  pub constants : ConstantsKept image kept-values
  pub in_output : InOutput out at

-- where any statement is run: the bodies kept stand in the output, and the trace is long enough, too
pub record RunContext (image register-starts : List ℕ) (kept-values : List KeptValue) (kept-bodies out trace : List ℕ) (at : Position) : Type 0 where
  pub context : StatementContext image register-starts kept-values out at
  pub bodies : BodiesKept image kept-bodies out at.words
  pub trace_length : most_trace_words ≤ length trace

-- the trace has room for n calls behind those that are on the stack
abbrev pub TraceRoom : Position → ℕ → Type 0
TraceRoom at n = at.trace + 2 * n ≤ most_trace_words

-- where any statement of a scope is run, with the angles that its frame has: the trace has room for every call that may nest in the scope
pub record FrameContext (image register-starts : List ℕ) (kept-values : List KeptValue) (kept-bodies : List ℕ) (scope : ℕ) (angles : List Value) (out trace : List ℕ) (at : Position) : Type 0 where
  pub run : RunContext image register-starts kept-values kept-bodies out trace at
  pub room : TraceRoom at (nested scope)
  pub sound : SoundAngles angles
