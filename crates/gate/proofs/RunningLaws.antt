-- The four slices that a run writes stay the same ones, and a statement that opens no gate keeps what is kept of bodies.
use Prim.Native.Nat.{ℕ}
use mathlib.Core.Path.{◌≡◌, refl, ◌∙◌}
use mathlib.Core.List.{List}
use Rattle.model.specs.Steps.{Step}
use Rattle.record_writer.specs.declared.Position.{Position}
use Rattle.record_writer.specs.Promise.{RunResult}
use Rattle.kept_body.specs.KeptBodies.{BodiesKept}
use Rattle.gate.specs.declared.Run.{Run}
use Rattle.gate.specs.RanSteps.{RanSteps}
use Rattle.gate.specs.Running.{SameLent, Wrote, Ran}
use Rattle.gate.proofs.RanStepsLaws.{wrote_ran, ran_still}
use Rattle.gate.proofs.BodiesKeptLaws.{bodies_ran}

pub lent_same : (run : Run) → SameLent run run
lent_same run = record { kept_values = refl; kept_bodies = refl; out = refl; trace = refl }

pub lent_on : {run run' run'' : Run} → SameLent run run' → SameLent run' run'' → SameLent run run''
lent_on s t =
    record {
      kept_values = t.kept_values ∙ s.kept_values;
      kept_bodies = t.kept_bodies ∙ s.kept_bodies;
      out = t.out ∙ s.out;
      trace = t.trace ∙ s.trace;
    }

pub wrote_is_ran : {ss : List Step} {image : List ℕ} {run run' : Run} {at : Position} {r : RunResult} → Wrote ss image run at r run' → BodiesKept image run.kept_bodies.now run.out.now at.words → Ran ss image run at r run'
wrote_is_ran {run = run} w kept =
    let steps = ran_still w.trace_is (wrote_ran run.trace.now w.steps) in
    record { steps = steps; constants = w.constants; bodies = rw w.bodies_are (bodies_ran steps kept); lent = w.lent }

-- what stands in the output and in the trace, by other names
pub ran_on : {ss : List Step} {out trace out' trace' out'' trace'' : List ℕ} {at : Position} {r : RunResult} → out'' ≡ out' → trace'' ≡ trace' → RanSteps ss out at trace r out' trace' → RanSteps ss out at trace r out'' trace''
ran_on e f steps = rw (e, f) steps
