-- What a statement or a body promises that may open others, and the steps of both.
use Rattle.std.specs.Prelude.{ℕ, suc, ◌+◌, ◌≡◌, List, [], ◌∷◌, length, Ok, Err}
use Rattle.std.proofs.lemmas.List.Edits.{sets}
use Rattle.model.specs.Image.{statement, statement_at}
use Rattle.model.specs.Steps as Steps
use Rattle.model.specs.Steps.{Step, visit_plain, open_gate, opening}
use Rattle.model.specs.Run.{trace_of}
use Rattle.model.specs.Playing.{Plays}
use Rattle.record_writer.specs.declared.Position.{Position}
use Rattle.record_writer.specs.Promise.{RunResult, state_at, position_of, run_answer_of}
use Rattle.argument.specs.Frames.{scope_frame}
use Rattle.statement.specs.declared.Site.{Site}
use Rattle.statement.specs.declared.Call.{Call}
use Rattle.value.specs.declared.Value.{Value}

-- some steps were played. Where they were refused, the calls on the stack stand in the trace from the position's words on.
pub record RanSteps (ss : List Step) (out : List ℕ) (at : Position) (trace : List ℕ) (r : RunResult) (out' trace' : List ℕ) : Type 0 where
  pub calls : List ℕ
  pub plays : Plays ss (state_at out at) (state_at out' (position_of r)) (run_answer_of r calls)
  pub tracing : trace' ≡ sets trace at.trace (trace_of (run_answer_of r calls))
  pub level : (position_of r).trace ≡ at.trace + length (trace_of (run_answer_of r calls))

-- the steps of a statement that is no conditional, with bodies opened so many levels deep
abbrev pub plain_steps : List ℕ → ℕ → Steps.Frame → ℕ → List Step
plain_steps image levels-left frame s = visit_plain image (λ r v t. []) (opening image levels-left) frame s (statement image s)

-- the steps of the statement of a site, which is no conditional, with the angles and qubits that the frame of its scope has
abbrev pub statement_steps : List ℕ → ℕ → List Value → List ℕ → Site → List Step
statement_steps image scope angles qubits site = plain_steps image site.levels_left (scope_frame image scope angles qubits) site.statement

-- the steps of a called gate that has a body, from its frame: those of the body, or the gate itself where no level is left
abbrev pub opened_steps : List ℕ → Call → List Value → List ℕ → List Step
opened_steps image call angles qubits = open_gate (opening image call.site.levels_left) (scope_frame image (suc call.gate) angles qubits) call.gate

-- a call of a scope comes back from the position inside it: where it is done, the trace is as before it; where it is refused, its pair of words is put in front
abbrev pub Popped : List ℕ → ℕ → Call → Position → RunResult → List ℕ → RunResult → List ℕ → Type 0
Popped image scope call at (Ok next) trace r trace' = (r ≡ Ok (record { records = next.records; words = next.words; trace = at.trace })) × (trace' ≡ trace)
Popped image scope call at (Err e) trace r trace' = (r ≡ Err e) × (trace' ≡ sets trace at.trace (scope ∷ statement_at image call.site.statement ∷ []))
