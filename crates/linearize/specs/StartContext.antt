-- Where a run and its main statements start.
use Rattle.std.specs.Prelude.{ℕ, ◌≤◌, ◌≡◌, List, length}
use Rattle.image.specs.RegisterStarts.{RegisterTable}
use Rattle.record_writer.specs.declared.Position.{Position}
use Rattle.record_writer.specs.Promise.{InOutput}
use Rattle.gate.specs.RunContext.{most_trace_words}

-- the entries that no table of a run passes
abbrev pub most_table_entries : ℕ
most_table_entries = 32768

-- a trace of full length, and a position in the output at which no call is on the stack
pub record StartContext (out trace : List ℕ) (at : Position) : Type 0 where
  pub in_output : InOutput out at
  pub trace_length : most_trace_words ≤ length trace
  pub no_calls : at.trace ≡ 0

-- where the main statements are run: the table tells where the registers start, too
pub record MainContext (image register-starts out trace : List ℕ) (at : Position) : Type 0 where
  pub start : StartContext out trace at
  pub starts : RegisterTable image register-starts
