-- The run of an accepted image plays its steps: the head where there is a main statement, then the main statements.
use mathlib.Core.Path.{refl}
use Rattle.model.proofs.Accepted.{accepts}
use Rattle.gate.proofs.RanStepsLaws.{ran_answer, wrote_ran, wrote_then, wrote_stops, ran_lengths, ran_steps}
use Rattle.record_writer.proofs.WroteStepsLaws.{handed_on, wrote_nothing}
use Rattle.linearize.proofs.MainContextLaws.{no_steps, head_steps, start_wrote}
use Rattle.linearize.proofs.run_accepted.Goals as goal

pub returns-then-accepted-eq0 : goal.returns-then-accepted-eq0
returns-then-accepted-eq0 c = ran_steps (no_steps _ _ c.args.accepted.now.image.laid.main_statements_is c.if-accepted-eq0.true) (wrote_ran _ (wrote_nothing c.requires.in_output))

pub write_head-requires : goal.write_head-requires
write_head-requires c = (c.requires.in_output, accepts _ c.args.accepted.now.accepted)

pub visit_all-requires : goal.visit_all-requires
visit_all-requires c = start_wrote c.requires c.write_head.ensures c.in_ok-next.was

pub returns : goal.returns
returns c = ran_steps (head_steps _ _ c.args.accepted.now.image.laid.main_statements_is c.if-accepted-eq0.false c.saturating_sub.ensures) (wrote_then c.write_head.ensures c.in_ok-next.was c.visit_all.ensures)

pub shape_of-trace : goal.shape_of-trace
shape_of-trace c = (ran_lengths (returns c)).1

pub shape_of-out : goal.shape_of-out
shape_of-out c = (ran_lengths (returns c)).0

pub shape_of-out-in_err-next : goal.shape_of-out-in_err-next
shape_of-out-in_err-next c = c.write_head.ensures.plays.same

pub returns-in_err-next : goal.returns-in_err-next
returns-in_err-next c = ran_answer (handed_on _ c.from_residual.ensures.1)
    (ran_steps (head_steps _ _ c.args.accepted.now.image.laid.main_statements_is c.if-accepted-eq0.false refl) (wrote_stops _ _ c.write_head.ensures c.in_err-next.was))
