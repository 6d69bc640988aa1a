-- One parameter that is not well formed is enough.
use Prim.Native.Nat.{◌+◌}
use mathlib.Core.Path.{◌∙◌}
use Rattle.model.proofs.Ranges.{all_fails}
use Rattle.image_entries.proofs.JudgementLaws.{parameter_ok, parameter_judged}
use Rattle.image_entries.proofs.expressions.JudgedImage.parameters_ok.Goals as goal

pub returns-then-not-expression_ok : goal.returns-then-not-expression_ok
returns-then-not-expression_ok c = let a = c.args in
    let image = a.self.now.image.words.now in
    let judged = parameter_judged image a.v (a.p + c.loop-i.i) _ _ _ c.parameter_at.ensures.is c.word.ensures c.expression_ok.ensures in
    all_fails (parameter_ok image a.v) a.p c.loop-i.i a.n c.loop-i-test.true (judged ∙ c.if-not-expression_ok.true)
