-- A main statement does what the definition says, whether it is a conditional or not.
use mathlib.Core.Path.{sym, ap, ◌∙◌}
use Rattle.image.specs.Entries.{as_statement}
use Rattle.gate.proofs.CallStatementLaws.{statement_is}
use Rattle.gate.proofs.RanStepsLaws.{ran_steps}
use Rattle.linearize.proofs.MainContextLaws.{plain_in_main, plain_steps_lem}
use Rattle.linearize.proofs.visit_main.Goals as goal

pub visit_conditional-requires : goal.visit_conditional-requires
visit_conditional-requires c = (c.requires.0, c.requires.1, sym (statement_is c.statement.ensures c.unwrap-entry.ensures) ∙ ap as_statement c.in-Conditional.is)

pub visit_statement-requires : goal.visit_statement-requires
visit_statement-requires c = (c.requires.0, plain_in_main _ _ c.requires.1 (statement_is c.statement.ensures c.unwrap-entry.ensures) c.in_default.not-Conditional)

pub returns-in_default : goal.returns-in_default
returns-in_default c = let v = c.visit_statement.ensures in
    let steps = ran_steps (plain_steps_lem _ _ c.requires.1 (statement_is c.statement.ensures c.unwrap-entry.ensures) c.in_default.not-Conditional _ _) v.steps in
    record { steps = steps; constants = v.constants; bodies = v.bodies; lent = v.lent }
