-- The main statements are run in turn, with angles and qubits that none of them reads.
use native.Mathlib.Omega.{arith}
use mathlib.Core.Path.{refl, sym, ◌∙◌}
use Rattle.model.proofs.AnglesSound.{zero_sound}
use Rattle.expression.proofs.AnglesLaws.{repeated_sound}
use Rattle.record_writer.proofs.WroteStepsLaws.{handed_on}
use Rattle.statement.proofs.LoopedLaws.{looped_start}
use Rattle.gate.proofs.RanStepsLaws.{ran_answer, ran_next, ran_stop, ran_done, ran_steps, ran_from, ran_still}
use Rattle.gate.proofs.BodiesKeptLaws.{bodies_at}
use Rattle.gate.proofs.RunContextLaws.{context_on}
use Rattle.gate.proofs.RunningLaws.{lent_same, lent_on}
use Rattle.linearize.proofs.MainContextLaws.{main_context, main_statement, main_statement_lem, main_steps_lem}
use Rattle.linearize.proofs.visit_program.Goals as goal

pub loop-s-init : goal.loop-s-init
loop-s-init c = let pre = c.requires in
    (looped_start _ _ pre.0.start.in_output, refl, pre.1, pre.2, lent_same _)

pub visit_main-requires : goal.visit_main-requires
visit_main-requires c = let pre = c.requires in
    let loop = c.loop-s.invariant in
    (record { run = context_on (main_context pre.0 pre.1 pre.2) loop.0 loop.1 loop.2 loop.3; room = omega (arith, pre.0.start.no_calls, loop.0.level); sound = rw c.zero-angles.ensures.0 (repeated_sound _ zero_sound) }, main_statement c.args.program.now.accepted (omega (arith, c.loop-s-test.true, c.args.program.now.image.laid.main_statements_is)))

pub returns-in_err-position : goal.returns-in_err-position
returns-in_err-position c = let pre = c.requires in
    let loop = c.loop-s.invariant in
    let v = c.visit_main.ensures in
    let handed = handed_on _ c.from_residual.ensures.1 in
    let steps = ran_answer handed (ran_steps (main_steps_lem _ _ c.args.program.now.image.laid.main_statements_is) (ran_from loop.1 (ran_stop _ _ loop.0 c.loop-s-test.true (main_statement_lem _ _ _ _ _) v.steps c.in_err-position.was refl))) in
    record { steps = steps; constants = v.constants; bodies = bodies_at (c.in_err-position.was ∙ sym handed) v.bodies; lent = lent_on loop.4 v.lent }

pub loop-s-preserved : goal.loop-s-preserved
loop-s-preserved c = let loop = c.loop-s.invariant in
    let v = c.visit_main.ensures in
    let w = ran_next _ _ loop.0 c.loop-s-test.true (main_statement_lem _ _ _ _ _) v.steps c.in_ok-position.was in
    (w.0, w.1 ∙ loop.1, v.constants, bodies_at c.in_ok-position.was v.bodies, lent_on loop.4 v.lent)

pub returns : goal.returns
returns c = let pre = c.requires in
    let loop = c.loop-s.invariant in
    let steps = ran_steps (main_steps_lem _ _ c.args.program.now.image.laid.main_statements_is) (ran_still loop.1 (ran_done _ _ loop.0 c.loop-s-test.false refl)) in
    record { steps = steps; constants = loop.2; bodies = loop.3; lent = loop.4 }
