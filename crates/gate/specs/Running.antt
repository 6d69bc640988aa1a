-- What a run has at hand where a statement, a call or a body is run, and what it has when that ends.
use Rattle.std.specs.Prelude.{ℕ, ◌≡◌, List}
use Rattle.value.specs.declared.Value.{Value}
use Rattle.model.specs.Steps.{Step}
use Rattle.argument.specs.declared.program.Program.{Program}
use Rattle.record_writer.specs.declared.Position.{Position}
use Rattle.record_writer.specs.Promise.{RunResult, WroteSteps, position_of}
use Rattle.expression.specs.KeptValues.{ConstantsKept}
use Rattle.kept_body.specs.KeptBodies.{BodiesKept}
use Rattle.gate.specs.declared.Run.{Run}
use Rattle.gate.specs.RunContext.{StatementContext, RunContext, FrameContext}
use Rattle.gate.specs.RanSteps.{RanSteps}

module _ (program : Program) (run : Run) where
  -- where a statement is run that opens no gate
  abbrev pub RunsPrimitive : Position → Type 0
  RunsPrimitive at = StatementContext program.image.words.now program.register_starts.now run.kept_values.now run.out.now at

  -- where any statement is run
  abbrev pub Runs : Position → Type 0
  Runs at = RunContext program.image.words.now program.register_starts.now run.kept_values.now run.kept_bodies.now run.out.now run.trace.now at

  -- where any statement of a scope is run, with the angles that its frame has
  abbrev pub InFrame : ℕ → List Value → Position → Type 0
  InFrame scope angles at = FrameContext program.image.words.now program.register_starts.now run.kept_values.now run.kept_bodies.now scope angles run.out.now run.trace.now at

-- the same four slices are lent
pub record SameLent (run run' : Run) : Type 0 where
  pub kept_values : run'.kept_values.ghost_name ≡ run.kept_values.ghost_name
  pub kept_bodies : run'.kept_bodies.ghost_name ≡ run.kept_bodies.ghost_name
  pub out : run'.out.ghost_name ≡ run.out.ghost_name
  pub trace : run'.trace.ghost_name ≡ run.trace.ghost_name

-- some steps were played, with no call left on the stack by them, and constants are kept as before
pub record Wrote (ss : List Step) (image : List ℕ) (run : Run) (at : Position) (r : RunResult) (run' : Run) : Type 0 where
  pub steps : WroteSteps ss run.out.now at r run'.out.now
  pub constants : ConstantsKept image run'.kept_values.now
  pub bodies_are : run'.kept_bodies.now ≡ run.kept_bodies.now
  pub trace_is : run'.trace.now ≡ run.trace.now
  pub lent : SameLent run run'

-- some steps were played, and what is kept of constants and bodies is theirs
pub record Ran (ss : List Step) (image : List ℕ) (run : Run) (at : Position) (r : RunResult) (run' : Run) : Type 0 where
  pub steps : RanSteps ss run.out.now at run.trace.now r run'.out.now run'.trace.now
  pub constants : ConstantsKept image run'.kept_values.now
  pub bodies : BodiesKept image run'.kept_bodies.now run'.out.now (position_of r).words
  pub lent : SameLent run run'
