-- `floor_root` gives `root`: the root stays between the two ends of an interval that its loop halves.
use Prim.Native.Nat.{◌-◌, ◌^◌, ◌≤◌, ◌<◌}
use Rattle.rational.proofs.floor_root.Given as goal

abbrev pub invariant-loop-lo : goal.invariant-loop-lo
invariant-loop-lo l = (l.lo ^ l.k ≤ l.n) × ((l.n < l.hi ^ l.k) × ((l.lo < l.hi) × (l.hi ≤ 2 ^ 32)))

abbrev pub decreases-loop-lo : goal.decreases-loop-lo
decreases-loop-lo l = l.hi - l.lo
