-- The number and the places of an answer, as document 01 numbers them.
use Rattle.std.specs.Prelude.{◌≡◌, ℕ, List}
use Rattle.model.specs.Run as Model
use Rattle.record_writer.specs.declared.LinearizeErrorKind.{LinearizeErrorKind}
use Rattle.record_writer.specs.Promise.{RunResult, refusal_answer, run_answer_of}
use Rattle.unit.specs.declared.Numbers.{Numbers}

-- the code's numbers as the definition's
abbrev pub numbers_of : Numbers → Model.Numbers
numbers_of n = record { number = n.number; place = n.place; second = n.second }

-- the numbers of a refusal, whatever the trace is
pub record RefusalNumbers (k : LinearizeErrorKind) (n : Numbers) : Type 0 where
  pub each : (t : List ℕ) → numbers_of n ≡ Model.answer_numbers (refusal_answer k t)

-- the numbers of a run's answer, whatever the trace is
pub record RunNumbers (r : RunResult) (n : Numbers) : Type 0 where
  pub each : (t : List ℕ) → numbers_of n ≡ Model.answer_numbers (run_answer_of r t)
