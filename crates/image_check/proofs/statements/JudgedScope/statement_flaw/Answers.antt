-- An if is judged with the statement that it holds, any other statement by itself.
use Rattle.std.proofs.Common.{sym, ap, ◌∙◌}
use Rattle.image.specs.Entries.{as_statement}
use Rattle.image_check.proofs.FlawLaws.{flaw_if, flaw_plain, flaw_unknown}
use Rattle.image_check.proofs.statements.JudgedScope.statement_flaw.Goals as goal

pub returns-in_default : goal.returns-in_default
returns-in_default c = flaw_unknown _ _ _ c.in_default.ensures

pub returns-in-Conditional : goal.returns-in-Conditional
returns-in-Conditional c = flaw_if _ _ _ (sym (ap as_statement c.in-Conditional.is) ∙ c.in-Some.ensures) (c.conditional_flaw.ensures c.in-Conditional.value)

pub returns-in_default-statement : goal.returns-in_default-statement
returns-in_default-statement c = flaw_plain _ _ _ c.in-Some.statement c.in_default-statement.not-Conditional c.in-Some.ensures c.plain_flaw.ensures
