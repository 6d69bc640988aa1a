-- The words of records, and the closing lines of a run's answer.
use Rattle.std.specs.Prelude.{◌≡◌, ℕ, Ok, Err}
use mathlib.Core.List.{List, [], ◌∷◌, ◌++◌, flat_map}
use Rattle.model.specs.Records.{Record, encode}
use Rattle.model.specs.Run.{answer_numbers}
use Rattle.model.specs.Listing.{ascii, decimal, line, from_text, refused_text}
use Rattle.record_writer.specs.Promise.{RunResult, refusal_answer}

-- some words are those of records
pub record WordsOfRecords (ws : List ℕ) : Type 0 where
  pub records : List Record
  pub words : ws ≡ flat_map encode records

-- the closing lines of an answer, with the words of its trace
unfoldable pub end_text : RunResult → List ℕ → List ℕ
end_text (Ok p) t = line (ascii "done" ∷ decimal p.records ∷ [])
end_text (Err e) t = from_text t ++ refused_text (answer_numbers (refusal_answer e.kind t))
