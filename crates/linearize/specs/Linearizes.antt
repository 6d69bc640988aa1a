-- The whole promise of a run, over the words that stand in the two lent slices when it ends.
use Rattle.std.specs.Prelude.{ℕ, ◌≡◌, List, take}
use Rattle.model.specs.Run.{Answer, Outcome, linearize}
use Rattle.model.specs.Claims.{Claims}
use Rattle.record_writer.specs.declared.LinearizeErrorKind.{LinearizeErrorKind}
use Rattle.record_writer.specs.declared.LinearizeError.{LinearizeError}
use Rattle.record_writer.specs.Promise.{RunResult, run_answer_of, position_of}

-- a refusal before anything is written
abbrev pub refused_with : LinearizeErrorKind → LinearizeError
refused_with k = record { kind = k; at = record { records = 0; words = 0; trace = 0 } }

module _ (r : RunResult) (out trace : List ℕ) where
  -- the answer in document 01's words: a refusal's trace is what stands in the trace
  abbrev pub answered : Answer
  answered = run_answer_of r (take (position_of r).trace trace)

  abbrev pub answer_outcome : Outcome
  answer_outcome =
      record {
        answer = answered;
        records = (position_of r).records;
        output_words = (position_of r).words;
        trace_words = (position_of r).trace;
        output_left = out;
        trace_left = trace;
      }

-- of an image, a depth and the slices as they were lent: an answer, and the slices as they are left
pub record Linearizes (image : List ℕ) (depth : ℕ) (out trace : List ℕ) (r : RunResult) (out' trace' : List ℕ) : Type 0 where
  -- answer, counts, output and trace are the definition's; words that need not be touched are as they were
  pub outcome : answer_outcome r out' trace' ≡ linearize image depth out trace
  -- demand 3, of this answer and these slices: what is written is what the tally said, in records of each kind, body entries and words; every index is a declared one; a CX has two different qubits. And a barrier's qubits rise
  pub claims : Claims image depth out trace (answer_outcome r out' trace')
