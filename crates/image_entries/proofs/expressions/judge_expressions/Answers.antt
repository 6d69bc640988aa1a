-- Each expression is judged once, after its operands.
use native.Mathlib.Omega.{arith}
use mathlib.Core.Path.{◌∙◌}
use lib.ListN.{length-set}
use Rattle.image_entries.proofs.JudgementLaws.{judged_next}
use Rattle.image_entries.proofs.expressions.judge_expressions.Goals as goal

pub loop-e-preserved : goal.loop-e-preserved
loop-e-preserved c = let t = c.loop-e.judgements in
    let j = c.judge_expression.result in
    (length-set t c.loop-e.e j ∙ c.loop-e.invariant.0, judged_next (omega arith) c.loop-e.invariant.1 c.judge_expression.ensures)
