-- `floor_root` gives `root`: the root stays between the two ends of an interval that its loop halves.
use mathlib.Core.Path.{◌≡◌, subst}
use Prim.Native.Nat.{ℕ, ◌+◌, ◌^◌, ◌<◌}
use native.Mathlib.Omega.{arith}
use Rattle.rational.proofs.RootLaws.{root_unique, root_is, root_below, zero_power}
use Rattle.rational.proofs.floor_root.Goals as goal

pub loop-lo-init : goal.loop-lo-init
loop-lo-init c = (zero_power _ _ (omega arith), (root_below _ _ c.requires.0 c.requires.1, omega arith))

pub returns : goal.returns
returns c = let l = c.loop-lo in
    let e : l.hi ≡ l.lo + 1 = omega arith in
    root_unique _ _ _ _ (l.invariant.0, subst (λ (z : ℕ). c.args.n < z ^ c.args.k) e l.invariant.1.0) (root_is c.args.k c.args.n (omega arith))
