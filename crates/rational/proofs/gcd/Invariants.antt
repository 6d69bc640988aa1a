-- `gcd` gives the greatest common divisor: each turn of its loop keeps that of the pair, and the second number falls.
use mathlib.Core.Path.{◌≡◌}
use Rattle.rational.specs.Gcd.{gcd}
use Rattle.rational.proofs.gcd.Given as goal

abbrev pub invariant-loop-y : goal.invariant-loop-y
invariant-loop-y l = gcd l.x l.y ≡ gcd l.a l.b

abbrev pub decreases-loop-y : goal.decreases-loop-y
decreases-loop-y l = l.y
