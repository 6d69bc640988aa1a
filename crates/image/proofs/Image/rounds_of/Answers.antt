-- The largest size of some arguments is found one argument after another.
use native.Mathlib.Omega.{arith}
use Rattle.model.specs.Image.{argument_size, rounds}
use Rattle.image.proofs.ArgumentSizeLaws.{most_start, most_next, most_done}
use Rattle.image.proofs.Image.rounds_of.Goals as goal

pub loop-i-init : goal.loop-i-init
loop-i-init c = most_start _ _

pub loop-i-preserved : goal.loop-i-preserved
loop-i-preserved c = most_next (argument_size c.args.self.now.words.now c.args.scope) _ _ _ _ _ c.loop-i.invariant c.argument_size.ensures (omega (arith, c.max-most.ensures))

pub returns : goal.returns
unfolding rounds
returns c = most_done (argument_size c.args.self.now.words.now c.args.scope) _ _ _ _ c.loop-i.auto.i-end c.loop-i-test.false c.loop-i.invariant
