-- What the functions that write records promise, and what their answers say in document 01's words.
use Rattle.std.specs.Prelude.{ℕ, ◌+◌, ◌≤◌, ◌<◌, ◌≡◌, List, [], ◌∷◌, length, get_or, Result, Ok, Err}
use Rattle.value.specs.declared.Value.{Value}
use Rattle.value.specs.Value.{Sound}
use Rattle.model.specs.Limits.{most_parameters, most_arguments}
use Rattle.model.specs.Evaluate.{zero_value}
use Rattle.float.specs.Float.{float_bits}
use Rattle.model.specs.Records.{Record, encode}
use Rattle.model.specs.Steps.{Step, write, Refusal}
use Rattle.model.specs.Run.{Answer, done, refused, full, flawed, short_trace}
use Rattle.model.specs.Playing.{OutputState, Plays}
use Rattle.image.specs.Answer.{refusal_flaw, number_in, place_in}
use Rattle.record_writer.specs.declared.Position.{Position}
use Rattle.record_writer.specs.declared.LinearizeErrorKind.{LinearizeErrorKind}
use Rattle.record_writer.specs.declared.LinearizeErrorKind.TheVariants as kind
use Rattle.record_writer.specs.declared.LinearizeError.{LinearizeError}

-- the answer that a kind of refusal is, with the words of the trace
abbrev pub refusal_answer : LinearizeErrorKind → List ℕ → Answer
refusal_answer (kind.DivideByZero p) t = refused t (Refusal.DivideByZero p)
refusal_answer (kind.ApproximateFail p f) t = refused t (Refusal.ApproximateFail p (float_bits f))
refusal_answer (kind.NumericalOverflow p) t = refused t (Refusal.NumericalOverflow p)
refusal_answer (kind.OverlappingRegs p q) t = refused t (Refusal.OverlappingRegs p q)
refusal_answer (kind.FunctionOfFloats p) t = refused t (Refusal.FunctionOfFloats p)
refusal_answer kind.OutputFull t = full t
refusal_answer (kind.Flawed c) t = flawed (number_in (refusal_flaw c)) (place_in (refusal_flaw c))
refusal_answer kind.ShortTrace t = short_trace

-- how a run ends: the code's `Linearized` is another name for this type
abbrev pub RunResult : Type 0
RunResult = Result Position LinearizeError

-- the answer that the end of a run is, with the words of the trace
abbrev pub run_answer_of : RunResult → List ℕ → Answer
run_answer_of (Ok p) t = done
run_answer_of (Err e) t = refusal_answer e.kind t

-- the position of an answer: what is written by then
abbrev pub position_of : RunResult → Position
position_of (Ok p) = p
position_of (Err e) = e.at

abbrev pub state_at : List ℕ → Position → OutputState
state_at out p = record { out = out; words = p.words; records = p.records }

-- a position in an output: a record has a word at least, so that the count of records cannot wrap
pub record InOutput (out : List ℕ) (at : Position) : Type 0 where
  pub inside : at.words ≤ length out
  pub fewer : at.records ≤ at.words

-- some steps were played, and no call is left on the stack by them
pub record WroteSteps (ss : List Step) (out : List ℕ) (at : Position) (r : RunResult) (out' : List ℕ) : Type 0 where
  pub plays : Plays ss (state_at out at) (state_at out' (position_of r)) (run_answer_of r [])
  pub level : (position_of r).trace ≡ at.trace

-- some steps were played, and none was refused
abbrev pub WroteStepsTo : List Step → List ℕ → Position → Position → List ℕ → Type 0
WroteStepsTo ss out at to out' = WroteSteps ss out at (Ok to) out'

-- the refusal of a record that is longer than the words left
abbrev pub output_full_at : Position → LinearizeError
output_full_at at = record { kind = kind.OutputFull; at = at }

-- some words were appended: whatever record they are, it was written
pub record AppendedWords (ws out : List ℕ) (at : Position) (r : RunResult) (out' : List ℕ) : Type 0 where
  pub wrote : (x : Record) → encode x ≡ ws → WroteSteps (write [] x ∷ []) out at r out'

-- sixteen angles, each in lowest terms and in range
pub record SoundAngles (angles : List Value) : Type 0 where
  pub sixteen : length angles ≡ most_parameters
  pub each : (i : ℕ) → i < most_parameters → Sound (get_or angles i zero_value)

-- the first n of sixteen sound angles are given
pub record AnglesGiven (angles : List Value) (n : ℕ) : Type 0 where
  pub sound : SoundAngles angles
  pub few : n ≤ most_parameters

-- the first n of sixteen qubits are given
pub record QubitsGiven (qubits : List ℕ) (n : ℕ) : Type 0 where
  pub sixteen : length qubits ≡ most_arguments
  pub few : n ≤ most_arguments

-- the three angles of a U are sound
pub record SoundTriple (theta phi lambda : Value) : Type 0 where
  pub theta_sound : Sound theta
  pub phi_sound : Sound phi
  pub lambda_sound : Sound lambda

-- the position after a record of n words
abbrev pub after_record : Position → ℕ → Position
after_record at n = record { records = at.records + 1; words = at.words + n; trace = at.trace }
