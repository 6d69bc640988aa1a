-- Document 01, "Run".
use Rattle.std.specs.Prelude.{ℕ, suc, ◌-◌, cond, length, drop, leb, ltb}
use mathlib.Core.List.{List, [], ◌∷◌, ◌++◌, flat_map}
use Rattle.model.specs.Refusals as refusal
use Rattle.model.specs.Records.{Record, encode}
use Rattle.model.specs.Check.{Flaw, fine, bad, check}
use Rattle.model.specs.Steps.{Refusal, DivideByZero, ApproximateFail, NumericalOverflow, OverlappingRegs, FunctionOfFloats, Step, write, enter, refuse, steps}

-- how a run ends: finished, a step's refusal, an output that is full (14), check's refusal, a trace that is too short (15)
pub data Answer : Type 0 where
  done : Answer
  refused : (trace : List ℕ) → Refusal → Answer
  full : (trace : List ℕ) → Answer
  flawed : (number place : ℕ) → Answer
  short_trace : Answer

-- document 01's number, place and second place, the f32's bits for 10; "unused 0". 0 is finished.
pub record Numbers : Type 0 where
  pub number : ℕ
  pub place : ℕ
  pub second : ℕ

abbrev pub numbers : ℕ → ℕ → ℕ → Numbers
numbers n p q = record { number = n; place = p; second = q }

unfoldable pub answer_numbers : Answer → Numbers
answer_numbers done = numbers 0 0 0
answer_numbers (refused t (DivideByZero p)) = numbers refusal.divide_by_zero p 0
answer_numbers (refused t (ApproximateFail p f)) = numbers refusal.approximate_fail p f
answer_numbers (refused t (NumericalOverflow p)) = numbers refusal.numerical_overflow p 0
answer_numbers (refused t (OverlappingRegs p q)) = numbers refusal.overlapping_regs p q
answer_numbers (refused t (FunctionOfFloats p)) = numbers refusal.function_of_floats p 0
answer_numbers (full t) = numbers refusal.output_full 0 0
answer_numbers (flawed n p) = numbers n p 0
answer_numbers short_trace = numbers refusal.short_trace 0 0

-- "Only 9 to 14 write a trace."
unfoldable pub trace_of : Answer → List ℕ
trace_of done = []
trace_of (refused t r) = t
trace_of (full t) = t
trace_of (flawed n p) = []
trace_of short_trace = []

-- the records written, the bodies entered, and the answer
pub record Played : Type 0 where
  pub written : List Record
  pub entered : ℕ
  pub answer : Answer

abbrev pub stop : Answer → Played
stop a = record { written = []; entered = 0; answer = a }

abbrev pub after : Record → Played → Played
after r p = record { written = r ∷ p.written; entered = p.entered; answer = p.answer }

abbrev pub inside : Played → Played
inside p = record { written = p.written; entered = suc p.entered; answer = p.answer }

-- The steps in turn with some words left. "at the first fault that the run meets and for no other reason", "14, place 0, exactly if a record is longer than the words left".
unfoldable pub play : ℕ → List Step → Played
play room [] = stop done
play room (refuse t x ∷ ss) = stop (refused t x)
play room (enter t g ∷ ss) = inside (play room ss)
play room (write t r ∷ ss) =
    let rest = after r (play (room - length (encode r)) ss) in
    cond (leb (length (encode r)) room) rest (stop (full t))

unfoldable pub accepted : Flaw → Played → Played
accepted fine p = p
accepted (bad n place) p = stop (flawed n place)

-- "15, place 0, if the trace has under 256 words; then check's."
unfoldable pub runs : List ℕ → ℕ → ℕ → ℕ → Played
runs image depth outputLength traceLength =
    cond (ltb traceLength 256) (stop short_trace) (accepted (check image) (play outputLength (steps image depth)))

-- the words of what is written
unfoldable pub output : Played → List ℕ
output p = flat_map encode p.written

-- ---- the whole outcome

-- the answer, "the records, output words and trace words written", and the two lent slices as they are left
pub record Outcome : Type 0 where
  pub answer : Answer
  pub records : ℕ
  pub output_words : ℕ
  pub trace_words : ℕ
  pub output_left : List ℕ
  pub trace_left : List ℕ

-- words laid over the front of a lent slice; the words behind them are not touched
abbrev pub laid_over : List ℕ → List ℕ → List ℕ
laid_over ws old = ws ++ drop (length ws) old

abbrev pub outcome_of : Played → List ℕ → List ℕ → Outcome
outcome_of p out trace =
    record {
      answer = p.answer;
      records = length p.written;
      output_words = length (output p);
      trace_words = length (trace_of p.answer);
      output_left = laid_over (output p) out;
      trace_left = laid_over (trace_of p.answer) trace;
    }

-- the run of an image at a depth on a lent output and a lent trace
unfoldable pub linearize : List ℕ → ℕ → List ℕ → List ℕ → Outcome
linearize image depth out trace = outcome_of (runs image depth (length out) (length trace)) out trace
