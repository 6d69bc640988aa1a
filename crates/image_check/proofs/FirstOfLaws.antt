-- The first of some tests that fails gives the number.
use Prim.Native.Nat.{ℕ}
use mathlib.Core.Path.{◌≡◌, refl}
use mathlib.Core.Bool.{Bool, true, false}
use mathlib.Core.List.{List, ◌∷◌}
use Rattle.model.specs.Check.{first_of}

-- a test that fails gives its number, and after one that passes come the others
pub fails : {b : Bool} {k : ℕ} (ts : List (Bool × ℕ)) → b ≡ false → k ≡ first_of ((b, k) ∷ ts)
unfolding first_of
fails ts e = rw e refl

pub passes : {b : Bool} {r : ℕ} (k : ℕ) (ts : List (Bool × ℕ)) → b ≡ true → r ≡ first_of ts → r ≡ first_of ((b, k) ∷ ts)
unfolding first_of
passes k ts e h = rw e h
