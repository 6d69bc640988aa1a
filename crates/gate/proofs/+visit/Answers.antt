-- A statement, a call, its gate, the rounds, an opened body and its statements run each other: each plays the steps that the definition says, keeps what is kept, and the measure falls at each call.
use Prim.Native.Nat.{◌≤◌, ◌<◌}
use native.Mathlib.Omega.{arith}
use mathlib.Core.Path.{refl, sym, ap, ◌∙◌}
use mathlib.Core.List.{[]}
use Rattle.image.specs.Entries.{as_statement}
use Rattle.record_writer.proofs.WroteStepsLaws.{handed_on, refuses}
use Rattle.expression.proofs.NamedExpressionLaws.{named}
use Rattle.statement.proofs.LoopedLaws.{looped_start}
use Rattle.gate.proofs.RanStepsLaws.{ran_answer, wrote_ran, ran_next, ran_stop, ran_done, ran_popped, ran_enter, ran_lengths, ran_steps, ran_from, ran_still, visited_start, visited_next, visited_stop, visited_done}
use Rattle.gate.proofs.CallStatementLaws.{statement_is, states, calls, named_listed, gate_given, gate_refused}
use Rattle.gate.proofs.OpenGateLaws.{not_true, not_false, opened_in_scope, opened_round_lem, opened_rounds, cut_rounds, opaque_rounds, open_steps}
use Rattle.gate.proofs.BodiesKeptLaws.{called_gate, slot_given, copy_given, body_run, copied_ran, context_same, ran_same_output, bodies_ran, bodies_at, bodies_popped}
use Rattle.gate.proofs.RunContextLaws.{holds_body, with_angles, context_kept, nested_in_body, context_on, scope_of_body, statement_in_body, step_in_body}
use borrow.Author.Rules.{rules}
use Rattle.gate.proofs.RunningLaws.{lent_same, lent_on, wrote_is_ran}
use Rattle.gate.proofs.+visit.Goals as goal

pub open_gate-copy_body-requires : goal.open_gate-copy_body-requires
open_gate-copy_body-requires t c = let pre = c.requires in
    copy_given pre.4.called pre.0 pre.1

pub open_gate-visit_body-requires : goal.open_gate-visit_body-requires
open_gate-visit_body-requires t c = let pre = c.requires in
    let copied = c.copy_body.ensures.1 _ pre.4.called pre.1.bodies in
    let same = copied.untouched c.in-None.is in
    (omega (arith, c.decreases), (pre.0, context_same same pre.1, pre.2, pre.3.sound, pre.4))

pub open_gate-returns-in-Some : goal.open_gate-returns-in-Some
open_gate-returns-in-Some t c = let pre = c.requires in
    let w = copied_ran _ _ pre.4.called ((c.copy_body.ensures.1 _ pre.4.called pre.1.bodies).wrote _ c.in-Some.is) in
    record { steps = w; constants = pre.1.context.constants; bodies = bodies_ran w pre.1.bodies; lent = search rules }

pub open_gate-returns-in-None : goal.open_gate-returns-in-None
open_gate-returns-in-None t c = let pre = c.requires in
    let copied = c.copy_body.ensures.1 _ pre.4.called pre.1.bodies in
    let same = copied.untouched c.in-None.is in
    let v = c.visit_body.ensures in
    record { steps = ran_same_output same v.steps; constants = v.constants; bodies = v.bodies; lent = search rules }

pub visit_body-invariant_of-scope : goal.visit_body-invariant_of-scope
visit_body-invariant_of-scope t c = record { in_scope = scope_of_body c.requires.0 }

pub visit_body-loop-s-init : goal.visit_body-loop-s-init
visit_body-loop-s-init t c = let pre = c.requires in
    (visited_start _ pre.1.context.in_output, refl, pre.1.context.constants, pre.1.bodies, lent_same _, refl)

pub visit_body-visit_statement-requires : goal.visit_body-visit_statement-requires
visit_body-visit_statement-requires t c = let pre = c.requires in
    let loop = c.loop-s.invariant in
    let body = rw (← c.into_iter-s-iterator.ensures.into_iter_gives) at c.statements_of-body.ensures in
    let step = c.in-Some.ensures.steps in
    let nests = nested_in_body c.args.call.gate in
    rw c.body_site.ensures (omega (arith, nests, c.decreases), (record { run = context_on pre.1 loop.0.looped loop.1 loop.2 loop.3; room = omega (arith, nests, pre.2, loop.0.looped.level); sound = pre.3 }, statement_in_body c.args.program.now.accepted pre.4.called.listed body (omega (arith, loop.0.from, step.1.1)) (omega (arith, step.1.0, step.1.1, loop.5)) _))

pub visit_body-returns-in_err-position : goal.visit_body-returns-in_err-position
visit_body-returns-in_err-position t c = let pre = c.requires in
    let loop = c.loop-s.invariant in
    let body = rw (← c.into_iter-s-iterator.ensures.into_iter_gives) at c.statements_of-body.ensures in
    let step = c.in-Some.ensures.steps in
    let below : c.loop-s.s-iterator.start < c.into_iter-s-iterator.result.end = omega (arith, step.1.0, loop.5) in
    let f = statement_in_body c.args.program.now.accepted pre.4.called.listed body loop.0.from below 0 in
    let v = rw (c.body_site.ensures, step.1.1) at c.visit_statement.ensures in
    let w = ran_from loop.1 (visited_stop _ loop.0 below (step_in_body _ _ _ _ _ _ f.facts) v.steps c.in_err-position.was) in
    let handed = handed_on _ c.from_residual.ensures.1 in
    record { steps = ran_answer handed (ran_steps (open_steps _ _ _ _ _ _ _ pre.4.has_level (holds_body _ _ body)) (ran_enter [] _ w)); constants = v.constants; bodies = bodies_at (c.in_err-position.was ∙ sym handed) v.bodies; lent = search rules }

pub visit_body-loop-s-preserved : goal.visit_body-loop-s-preserved
visit_body-loop-s-preserved t c = let pre = c.requires in
    let loop = c.loop-s.invariant in
    let body = rw (← c.into_iter-s-iterator.ensures.into_iter_gives) at c.statements_of-body.ensures in
    let step = c.in-Some.ensures.steps in
    let below : c.loop-s.s-iterator.start < c.into_iter-s-iterator.result.end = omega (arith, step.1.0, loop.5) in
    let f = statement_in_body c.args.program.now.accepted pre.4.called.listed body loop.0.from below 0 in
    let v = rw (c.body_site.ensures, step.1.1) at c.visit_statement.ensures in
    let w = visited_next _ loop.0 below (step_in_body _ _ _ _ _ _ f.facts) v.steps c.in_ok-position.was in
    (rw step.1.2 w.0, w.1 ∙ loop.1, v.constants, bodies_at c.in_ok-position.was v.bodies, lent_on loop.4 v.lent, step.0 ∙ loop.5)

pub visit_body-keep_body-requires : goal.visit_body-keep_body-requires
visit_body-keep_body-requires t c = let pre = c.requires in
    let loop = c.loop-s.invariant in
    let played = loop.0.looped.going.played in
    (slot_given pre.4.called pre.0 loop.3, (omega (arith, played.position), omega (arith, played.counts)))

pub visit_body-returns : goal.visit_body-returns
visit_body-returns t c = let pre = c.requires in
    let loop = c.loop-s.invariant in
    let body = rw (← c.into_iter-s-iterator.ensures.into_iter_gives) at c.statements_of-body.ensures in
    let end : c.into_iter-s-iterator.result.end ≤ c.loop-s.s-iterator.start = omega (arith, c.in-None.ensures.steps.1.0, loop.5) in
    let w = ran_steps (open_steps _ _ _ _ _ _ _ pre.4.has_level (holds_body _ _ body)) (ran_enter [] _ (ran_still loop.1 (visited_done _ loop.0 end))) in
    record { steps = w; constants = loop.2; bodies = c.keep_body.ensures.1 _ _ _ (body_run pre.1 pre.4.called w) loop.3; lent = search rules }

pub visit_call-parameter_values-requires : goal.visit_call-parameter_values-requires
visit_call-parameter_values-requires t c = let pre = c.requires in
    let program = c.args.scope.now.program.now in
    (with_angles pre.0.run.context pre.0.sound, named _ _ c.args.angles.now (named_listed program.image.laid program.accepted pre.2 pre.1 c.args.scope.now.in_scope))

pub visit_call-returns : goal.visit_call-returns
visit_call-returns t c = let pre = c.requires in
    let program = c.args.scope.now.program.now in
    let found = rw c.in_ok-values.was at c.parameter_values.ensures.0 in
    let v = c.visit_gate.ensures in
    record { steps = ran_steps (gate_given program.image.laid program.accepted pre.2 pre.1 c.args.scope.now.in_scope c.args.angles.now found.1) v.steps; constants = v.constants; bodies = v.bodies; lent = search rules }

pub visit_call-returns-in_err-values : goal.visit_call-returns-in_err-values
visit_call-returns-in_err-values t c = let pre = c.requires in
    let program = c.args.scope.now.program.now in
    let given = c.parameter_values.ensures in
    let ends = rw c.in_err-values.was at given.0 in
    let w = ran_answer (handed_on _ c.from_residual.ensures.1) (ran_steps (gate_refused program.image.laid program.accepted pre.2 pre.1 c.args.scope.now.in_scope c.args.angles.now ends.1.1) (wrote_ran _ (refuses _ _ ends.0 ends.1.2 pre.0.run.context.in_output))) in
    record { steps = w; constants = given.1; bodies = bodies_ran w pre.0.run.bodies; lent = search rules }

pub visit_gate-returns-then-not-call : goal.visit_gate-returns-then-not-call
visit_gate-returns-then-not-call t c = let pre = c.requires in
    let w = ran_steps (opaque_rounds pre.3 c.args.scope.now.qubits.now [] _ (not_true _ c.if-not-call.true)) (wrote_ran _ c.visit_opaque.ensures) in
    record { steps = w; constants = pre.0.context.constants; bodies = bodies_ran w pre.0.bodies; lent = search rules }

pub visit_gate-returns-then-call-eq0 : goal.visit_gate-returns-then-call-eq0
visit_gate-returns-then-call-eq0 t c = let pre = c.requires in
    let scope = c.args.scope.now in
    let w =
    ran_steps (cut_rounds pre.3 scope.qubits.now [] _ (not_false _ c.if-not-call.false) c.if-call-eq0.true)
    (ran_popped scope.program.now.image.words.now scope.number c.args.call _ (wrote_ran _ c.visit_cut-answer.ensures) c.pop_call.ensures) in
    record { steps = w; constants = pre.0.context.constants; bodies = bodies_ran w pre.0.bodies; lent = search rules }

pub visit_gate-visit_rounds-answer-requires : goal.visit_gate-visit_rounds-answer-requires
visit_gate-visit_rounds-answer-requires t c = let pre = c.requires in
    (omega (arith, c.decreases), (context_kept pre.0 pre.0.context.constants (record { inside = pre.0.context.in_output.inside; fewer = pre.0.context.in_output.fewer }) refl, omega (arith, pre.1, pre.3.downward), pre.2, pre.3, record { called = called_gate c.args.scope.now.program.now.accepted pre.3; has_body = not_false _ c.if-not-call.false; has_level = c.if-call-eq0.false }))

pub visit_gate-pop_call-requires-2 : goal.visit_gate-pop_call-requires-2
visit_gate-pop_call-requires-2 t c = let pre = c.requires in
    let laid = c.args.scope.now.program.now.image.laid in
    (omega (arith, pre.0.trace_length, pre.1, pre.3.downward, (ran_lengths c.visit_rounds-answer.ensures.steps).1), omega (arith, pre.3.listed, laid.statements_is, laid.whole, laid.short))

pub visit_gate-returns : goal.visit_gate-returns
visit_gate-returns t c = let pre = c.requires in
    let scope = c.args.scope.now in
    let v = c.visit_rounds-answer.ensures in
    let w = ran_steps (opened_rounds pre.3 scope.qubits.now [] _ (not_false _ c.if-not-call.false)) (ran_popped scope.program.now.image.words.now scope.number c.args.call _ v.steps c.pop_call-2.ensures) in
    record { steps = w; constants = v.constants; bodies = bodies_popped scope.number c.args.call c.args.at c.visit_rounds-answer.result c.visit_rounds-answer.new.run.trace.now c.pop_call-2.result c.pop_call-2.new.trace c.pop_call-2.ensures v.bodies; lent = search rules }

pub visit_rounds-loop-i-init : goal.visit_rounds-loop-i-init
visit_rounds-loop-i-init t c = let pre = c.requires in
    (looped_start _ _ pre.0.context.in_output, refl, pre.0.context.constants, pre.0.bodies, lent_same _)

pub visit_rounds-open_gate-requires : goal.visit_rounds-open_gate-requires
visit_rounds-open_gate-requires t c = let pre = c.requires in
    let scope = c.args.scope.now in
    let loop = c.loop-i.invariant in
    (omega (arith, c.decreases, pre.3.downward), (opened_in_scope pre.3 c.call_qubits.ensures scope.program.now.accepted scope.in_scope (omega (arith, c.call_rounds-n.ensures, c.loop-i-test.true)), context_on pre.0 loop.0 loop.1 loop.2 loop.3, omega (arith, pre.1, loop.0.level), pre.2, pre.4))

pub visit_rounds-returns-in_err-position : goal.visit_rounds-returns-in_err-position
visit_rounds-returns-in_err-position t c = let pre = c.requires in
    let loop = c.loop-i.invariant in
    let v = c.open_gate.ensures in
    let handed = handed_on _ c.from_residual.ensures.1 in
    record { steps = ran_answer handed (ran_from loop.1 (ran_stop _ _ loop.0 c.loop-i-test.true (opened_round_lem pre.3 c.call_qubits.ensures _) v.steps c.in_err-position.was c.call_rounds-n.ensures)); constants = v.constants; bodies = bodies_at (c.in_err-position.was ∙ sym handed) v.bodies; lent = search rules }

pub visit_rounds-loop-i-preserved : goal.visit_rounds-loop-i-preserved
visit_rounds-loop-i-preserved t c = let pre = c.requires in
    let loop = c.loop-i.invariant in
    let v = c.open_gate.ensures in
    let w = ran_next _ _ loop.0 c.loop-i-test.true (opened_round_lem pre.3 c.call_qubits.ensures _) v.steps c.in_ok-position.was in
    (w.0, w.1 ∙ loop.1, v.constants, bodies_at c.in_ok-position.was v.bodies, lent_on loop.4 v.lent)

pub visit_rounds-returns : goal.visit_rounds-returns
visit_rounds-returns t c = let loop = c.loop-i.invariant in
    record { steps = ran_still loop.1 (ran_done _ _ loop.0 c.loop-i-test.false c.call_rounds-n.ensures); constants = loop.2; bodies = loop.3; lent = loop.4 }

pub visit_statement-visit_call-requires : goal.visit_statement-visit_call-requires
visit_statement-visit_call-requires t c = let program = c.args.scope.now.program.now in
    let stated = sym (statement_is c.statement.ensures c.unwrap-entry.ensures) ∙ ap as_statement c.in-Gate.is in
    rw c.call_at-call.ensures (omega (arith, c.decreases), (c.requires.0, states program.image.laid program.accepted c.args.site c.requires.1 stated, calls program.image.laid program.accepted c.args.site c.requires.1 stated))

pub visit_statement-returns-in_default : goal.visit_statement-returns-in_default
visit_statement-returns-in_default t c = wrote_is_ran c.visit_primitive.ensures c.requires.0.run.bodies
