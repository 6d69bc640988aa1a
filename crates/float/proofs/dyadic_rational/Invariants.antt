-- `dyadic_rational` gives the reduced fraction: each turn of its loop halves the numerator and doubles the power of 2 beside it.
use mathlib.Core.Path.{◌≡◌}
use Prim.Native.Nat.{◌*◌, ◌-◌, ◌^◌, ◌<◌}
use Rattle.float.proofs.dyadic_rational.Given as goal

abbrev pub invariant-loop-j : goal.invariant-loop-j
invariant-loop-j l = (l.m * 2 ^ l.j ≡ l.q * 2 ^ l.k) × ((l.j < 254) × (l.m < 2 ^ 24))

abbrev pub decreases-loop-j : goal.decreases-loop-j
decreases-loop-j l = 149 - l.j
