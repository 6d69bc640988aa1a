-- A scope of an image whose gate entries are accepted has at most sixteen variables.
use Prim.Native.Nat.{ℕ, zero, suc, ◌≤◌}
use native.Mathlib.Omega.{arith}
use mathlib.Core.Path.{◌≡◌}
use mathlib.Core.List.{List}
use lib.Dec.{leb→le}
use Rattle.model.specs.Image.{gates, variables}
use Rattle.model.specs.Check.{gate_ok}
use Rattle.model.proofs.All.{test}
use Rattle.image.specs.Layout.{GatesAccepted}

pub variables_few : (image : List ℕ) → GatesAccepted image → (scope n : ℕ) → n ≡ gates image → scope ≤ n → variables image scope ≤ 16
unfolding variables gate_ok
variables_few image known zero n e h = omega arith
variables_few image known (suc g) n e h = leb→le _ 16 (test 0 _ (known.each g (omega arith)))
