-- A conditional is written with its start, its inner statement and its end.
use native.Mathlib.Omega.{arith}
use borrow.Author.Rules.{rules}
use Rattle.record_writer.proofs.WroteStepsLaws.{handed_on}
use Rattle.gate.proofs.RanStepsLaws.{ran_answer, wrote_then, wrote_stops, ran_steps}
use Rattle.gate.proofs.BodiesKeptLaws.{bodies_ran}
use Rattle.gate.proofs.RunContextLaws.{context_wrote, room_wrote}
use Rattle.linearize.proofs.MainContextLaws.{if_facts, inner_listed, conditional_steps}
use Rattle.linearize.proofs.visit_conditional.Goals as goal

pub classical_register_at-requires : goal.classical_register_at-requires
classical_register_at-requires c = let laid = c.args.scope.now.program.now.image.laid in
    omega (arith, (if_facts _ _ c.requires.1 c.requires.2).1, laid.classical_registers_is, laid.whole, laid.short)

pub overflow_add-first : goal.overflow_add-first
overflow_add-first c = let laid = c.args.scope.now.program.now.image.laid in
    record { fits = omega (arith, (if_facts _ _ c.requires.1 c.requires.2).1, laid.quantum_registers_is, laid.classical_registers_is, laid.whole, laid.short) }

pub write_conditional_start-requires : goal.write_conditional_start-requires
write_conditional_start-requires c = c.requires.0.run.context.in_output

pub visit_inner_statement-requires : goal.visit_inner_statement-requires
visit_inner_statement-requires c = let pre = c.requires in
    let start = c.write_conditional_start.ensures in
    (record { run = context_wrote pre.0.run start c.in_ok-next.was; room = room_wrote _ pre.0.room start c.in_ok-next.was; sound = pre.0.sound }, inner_listed _ _ pre.1 pre.2 _)

pub returns : goal.returns
returns c = let pre = c.requires in
    let program = c.args.scope.now.program.now in
    let v = c.visit_inner_statement.ensures in
    let steps = ran_steps (conditional_steps _ _ pre.1 pre.2 pre.0.run.context.with_bits program.image.laid.quantum_registers_is _ _ c.word-size.ensures c.classical_register_at.ensures.is) (wrote_then c.write_conditional_start.ensures c.in_ok-next.was v.steps) in
    record { steps = steps; constants = v.constants; bodies = v.bodies; lent = search rules }

pub returns-in_err-next : goal.returns-in_err-next
returns-in_err-next c = let pre = c.requires in
    let program = c.args.scope.now.program.now in
    let w =
    ran_answer (handed_on _ c.from_residual.ensures.1)
    (ran_steps (conditional_steps _ _ pre.1 pre.2 pre.0.run.context.with_bits program.image.laid.quantum_registers_is _ _ c.word-size.ensures c.classical_register_at.ensures.is) (wrote_stops _ _ c.write_conditional_start.ensures c.in_err-next.was)) in
    record { steps = w; constants = pre.0.run.context.constants; bodies = bodies_ran w pre.0.run.bodies; lent = search rules }
