-- The inner statement of a conditional is run, then its end is written.
use mathlib.Core.Path.{sym, ◌∙◌}
use Rattle.record_writer.proofs.WroteStepsLaws.{handed_on}
use Rattle.kept_body.proofs.KeptBodiesLaws.{bodies_later}
use Rattle.gate.proofs.RanStepsLaws.{ran_answer, ran_then, ran_stops}
use Rattle.gate.proofs.BodiesKeptLaws.{bodies_at}
use Rattle.gate.proofs.RunContextLaws.{ran_open}
use borrow.Author.Rules.{rules}
use Rattle.linearize.proofs.visit_inner_statement.Goals as goal

pub write_conditional_end-requires : goal.write_conditional_end-requires
write_conditional_end-requires c = let pre = c.requires in
    let visit-statement = c.visit_statement.ensures in
    ran_open pre.0.run.context.in_output visit-statement.steps c.in_ok-next.was

pub returns : goal.returns
returns c = let v = c.visit_statement.ensures in
    record { steps = ran_then v.steps c.in_ok-next.was c.write_conditional_end.ensures; constants = v.constants; bodies = bodies_later c.write_conditional_end.ensures.plays (bodies_at c.in_ok-next.was v.bodies); lent = search rules }

pub returns-in_err-next : goal.returns-in_err-next
returns-in_err-next c = let v = c.visit_statement.ensures in
    let handed = handed_on _ c.from_residual.ensures.1 in
    record { steps = ran_answer handed (ran_stops _ v.steps c.in_err-next.was); constants = v.constants; bodies = bodies_at (c.in_err-next.was ∙ sym handed) v.bodies; lent = v.lent }
