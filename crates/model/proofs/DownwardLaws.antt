-- A call goes down from every scope in main, and in the body of a gate where it is of a smaller gate.
use Prim.Native.Nat.{ℕ, zero, suc, ◌-◌}
use native.Mathlib.Omega.{arith}
use mathlib.Core.Path.{◌≡◌, refl, ap}
use mathlib.Core.Bool.{true}
use lib.Dec.{ltb}
use Rattle.model.specs.Check.{downward}

pub down_main : (scope g : ℕ) → scope ≡ 0 → true ≡ downward scope g
unfolding downward
down_main scope g z = rw z refl

pub down_body : (scope g : ℕ) → ¬ (scope ≡ 0) → ltb g (scope - 1) ≡ downward scope g
unfolding downward
down_body zero g z = absurd (z refl)
down_body (suc h) g z = let e : suc h - 1 ≡ h = omega arith in ap (ltb g) e
