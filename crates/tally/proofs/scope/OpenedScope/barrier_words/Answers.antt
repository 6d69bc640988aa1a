-- The words of a barrier are added up argument by argument.
use Rattle.std.proofs.Common.{ap, arith}
use Rattle.model.specs.Image.{argument_size}
use Rattle.model.specs.Lists.{range, sum}
use Rattle.tally.specs.Weights.{capped}
use Rattle.tally.proofs.CappedLaws.{sum_more}
use Rattle.tally.proofs.PlainTallyLaws.{formal_sizes}
use Rattle.tally.proofs.scope.OpenedScope.barrier_words.Goals as goal

pub returns-then-self-ne0 : goal.returns-then-self-ne0
returns-then-self-ne0 c = let a = c.args in
    rw (formal_sizes a.self.now.image.now.words.now a.self.now.scope a.a a.n c.if-self-ne0.true) c.capped_sum.ensures

pub loop-i-init : goal.loop-i-init
unfolding sum range
loop-i-init c = omega arith

pub loop-i-preserved : goal.loop-i-preserved
loop-i-preserved c = let a = c.args in
    sum_more (argument_size a.self.now.image.now.words.now a.self.now.scope) 2 a.a c.loop-i.i _ _ _ c.loop-i.invariant (ap capped c.argument_size.ensures) c.capped_sum-total.ensures
