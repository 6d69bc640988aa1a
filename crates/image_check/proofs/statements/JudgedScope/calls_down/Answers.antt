-- Main calls any gate, and a body those before its own.
use Rattle.std.proofs.Common.{◌∙◌}
use borrow.Author.Tests.{eq-eqb}
use Rattle.model.proofs.DownwardLaws.{down_main, down_body}
use Rattle.image_check.proofs.statements.JudgedScope.calls_down.Goals as goal

pub returns-then-self-eq0 : goal.returns-then-self-eq0
returns-then-self-eq0 c = eq-eqb _ _ c.if-self-eq0.true ∙ down_main _ _ c.if-self-eq0.true

pub returns-else-self-eq0 : goal.returns-else-self-eq0
returns-else-self-eq0 c = down_body _ _ c.if-self-eq0.false
