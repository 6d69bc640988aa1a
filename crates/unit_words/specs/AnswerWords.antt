-- The words of an answer, for callers in other languages.
use Rattle.std.specs.Prelude.{ℕ, ◌≡◌, List, [], ◌∷◌, get_or, take}
use Rattle.model.specs.Refusals as refusal
use Rattle.model.specs.Check.{Flaw, fine, bad}
use Rattle.model.specs.Tally.{TallyAnswer}
use Rattle.model.specs.Tally as tally
use Rattle.model.specs.Steps.{DivideByZero, ApproximateFail, NumericalOverflow, OverlappingRegs, FunctionOfFloats}
use Rattle.model.specs.Run.{Answer, done, refused, full, flawed, short_trace, Numbers, numbers, answer_numbers, Outcome, linearize}
use Rattle.model.specs.Claims.{Claims}
use Rattle.record_reader.specs.Answer.{NextRecord, next_number, next_length}

-- the number and the place of what is wrong, 0 0 of an accepted image
abbrev pub check_words : Flaw → List ℕ
check_words fine = 0 ∷ 0 ∷ []
check_words (bad n p) = n ∷ p ∷ []

-- a tally's number and place, and the nine figures
abbrev pub tally_words : TallyAnswer → List ℕ
tally_words (tally.tallied nine) = 0 ∷ 0 ∷ nine
tally_words (tally.refused n p) = n ∷ p ∷ 0 ∷ 0 ∷ 0 ∷ 0 ∷ 0 ∷ 0 ∷ 0 ∷ 0 ∷ 0 ∷ []

-- the record reader's number and the record's length; a record has a word at least, so that 0 0 is the end
abbrev pub next_words : NextRecord → List ℕ
next_words a = next_number a ∷ next_length a ∷ []

-- a run's number, place and second place, and how many records, output words and trace words it has written
abbrev pub run_words : Outcome → List ℕ
run_words o = (answer_numbers o.answer).number ∷ (answer_numbers o.answer).place ∷ (answer_numbers o.answer).second ∷ o.records ∷ o.output_words ∷ o.trace_words ∷ []

-- the answer that has some numbers, with the words of the trace; by the first of the numbers:
abbrev pub answer_in : Numbers → List ℕ → Answer
answer_in n calls =
    get_or
    -- 0: finished
    (done
    -- 1 to 8: check's refusals
    ∷ flawed refusal.contents n.place
    ∷ flawed refusal.register n.place
    ∷ flawed refusal.gate_entry n.place
    ∷ flawed refusal.form n.place
    ∷ flawed refusal.argument n.place
    ∷ flawed refusal.expression n.place
    ∷ flawed refusal.sizes n.place
    ∷ flawed refusal.upward n.place
    -- 9 to 13: a step's refusals
    ∷ refused calls (DivideByZero n.place)
    ∷ refused calls (ApproximateFail n.place n.second)
    ∷ refused calls (NumericalOverflow n.place)
    ∷ refused calls (OverlappingRegs n.place n.second)
    ∷ refused calls (FunctionOfFloats n.place)
    -- 14: an output that is full
    ∷ full calls
    -- 15: a trace that is too short
    ∷ short_trace ∷ [])
    n.number short_trace

-- the outcome that stands in the six words of an answer, in the output and in the trace
abbrev pub outcome_in : List ℕ → List ℕ → List ℕ → Outcome
outcome_in answer out trace =
    record {
      answer = answer_in (numbers (get_or answer 0 0) (get_or answer 1 0) (get_or answer 2 0)) (take (get_or answer 5 0) trace);
      records = get_or answer 3 0;
      output_words = get_or answer 4 0;
      trace_words = get_or answer 5 0;
      output_left = out;
      trace_left = trace;
    }

-- of an image, a depth and the slices as they were lent: the slices as they are left, and the six words of the answer
pub record RunExport (image : List ℕ) (depth : ℕ) (out trace out' trace' answer : List ℕ) : Type 0 where
  -- the words, the output and the trace are the definition's
  pub answers : answer ≡ run_words (linearize image depth out trace)
  pub output : out' ≡ (linearize image depth out trace).output_left
  pub traces : trace' ≡ (linearize image depth out trace).trace_left
  -- nothing of the outcome is lost in them; demand 3 holds of them, and a barrier's qubits rise
  pub outcome : outcome_in answer out' trace' ≡ linearize image depth out trace
  pub claims : Claims image depth out trace (outcome_in answer out' trace')
