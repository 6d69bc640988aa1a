-- A statement, a call, its gate, the rounds, an opened body and its statements run each other: each plays the steps that the definition says, keeps what is kept, and the measure falls at each call.
use Prim.Native.Nat.{◌+◌, ◌*◌}
use mathlib.Core.Path.{◌≡◌}
use lib.ListN.{take}
use Rattle.expression.specs.KeptValues.{ConstantsKept}
use Rattle.statement.proofs.LoopedLaws.{Looped}
use Rattle.gate.specs.RunContext.{nested}
use Rattle.gate.proofs.RanStepsLaws.{Visited}
use Rattle.gate.specs.CallStatement.{opened_round}
use Rattle.gate.proofs.OpenGateLaws.{body_statement}
use Rattle.kept_body.specs.KeptBodies.{BodiesKept}
use Rattle.gate.specs.Running.{SameLent}
use Rattle.gate.proofs.+visit.Given as goal

abbrev pub decreases-open_gate : goal.decreases-open_gate
decreases-open_gate l = 6 * l.call.gate + 6

abbrev pub decreases-visit_body : goal.decreases-visit_body
decreases-visit_body l = 6 * l.call.gate + 5

abbrev pub decreases-visit_call : goal.decreases-visit_call
decreases-visit_call l = 6 * nested l.scope.now.number + 3

abbrev pub decreases-visit_gate : goal.decreases-visit_gate
decreases-visit_gate l = 6 * nested l.scope.now.number + 2

abbrev pub decreases-visit_rounds : goal.decreases-visit_rounds
decreases-visit_rounds l = 6 * nested l.scope.now.number + 1

abbrev pub decreases-visit_statement : goal.decreases-visit_statement
decreases-visit_statement l = 6 * nested l.scope.now.number + 4

abbrev pub invariant-visit_body-loop-s : goal.invariant-visit_body-loop-s
invariant-visit_body-loop-s l = Visited (body_statement l.program.image.words.now l.call.gate l.call.site.levels_left l.frame.angles l.frame.qubits) l.initial.s-iterator.start l.initial.s-iterator.end l.initial.run.out.now l.at l.s-iterator.start l.run.out.now l.position × (l.run.trace.now ≡ l.initial.run.trace.now) × ConstantsKept l.program.image.words.now l.run.kept_values.now × BodiesKept l.program.image.words.now l.run.kept_bodies.now l.run.out.now l.position.words × SameLent l.initial.run l.run × (l.s-iterator.end ≡ l.initial.s-iterator.end)

abbrev pub invariant-visit_rounds-loop-i : goal.invariant-visit_rounds-loop-i
invariant-visit_rounds-loop-i l = Looped (opened_round l.scope.program.now.image.words.now l.scope.number l.scope.qubits.now l.call (take l.call.parameters l.angles)) l.n l.initial.run.out.now l.initial.position l.i l.run.out.now l.position × (l.run.trace.now ≡ l.initial.run.trace.now) × ConstantsKept l.scope.program.now.image.words.now l.run.kept_values.now × BodiesKept l.scope.program.now.image.words.now l.run.kept_bodies.now l.run.out.now l.position.words × SameLent l.initial.run l.run
