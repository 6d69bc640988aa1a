-- An expression is well formed if its judgement says so, and none past the last is.
use native.Mathlib.Omega.{arith}
use Rattle.std.proofs.Common.{◌∙◌}
use borrow.Author.Tests.{le-ltb}
use Rattle.image_entries.proofs.JudgementLaws.{past_none}
use Rattle.image_entries.proofs.expressions.expression_ok.Goals as goal

pub returns-else-e-layout : goal.returns-else-e-layout
returns-else-e-layout c = λ image laid judged. le-ltb _ _ c.if-e-layout.false ∙ past_none image c.args.v 32 c.args.e (omega (arith, laid.expressions_is, c.if-e-layout.false))
