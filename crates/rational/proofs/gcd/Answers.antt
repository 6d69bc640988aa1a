-- `gcd` gives the greatest common divisor: each turn of its loop keeps that of the pair, and the second number falls.
use mathlib.Core.Path.{sym, ◌∙◌}
use native.Mathlib.Omega.{arith}
use Rattle.rational.proofs.GcdLaws.{gcd_step, gcd_zero}
use Rattle.rational.proofs.gcd.Goals as goal

pub loop-y-preserved : goal.loop-y-preserved
loop-y-preserved c = sym (gcd_step _ _ (omega arith)) ∙ c.loop-y.invariant

pub returns : goal.returns
returns c = cc (gcd_zero c.loop-y.x)
