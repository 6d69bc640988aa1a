-- The main statements are run in turn, with angles and qubits that none of them reads.
use mathlib.Core.Path.{◌≡◌}
use Rattle.model.specs.Steps.{visit_statement, opening, main_frame}
use Rattle.expression.specs.KeptValues.{ConstantsKept}
use Rattle.statement.proofs.LoopedLaws.{Looped}
use Rattle.kept_body.specs.KeptBodies.{BodiesKept}
use Rattle.gate.specs.Running.{SameLent}
use Rattle.linearize.proofs.visit_program.Given as goal

abbrev pub invariant-loop-s : goal.invariant-loop-s
invariant-loop-s l = Looped (visit_statement l.fn.program.image.words.now (opening l.fn.program.image.words.now l.levels_left) main_frame) l.fn.program.image.layout.main_statements l.initial.run.out.now l.initial.position l.s l.run.out.now l.position × (l.run.trace.now ≡ l.initial.run.trace.now) × ConstantsKept l.fn.program.image.words.now l.run.kept_values.now × BodiesKept l.fn.program.image.words.now l.run.kept_bodies.now l.run.out.now l.position.words × SameLent l.initial.run l.run
