-- The sum of the sizes is built up register by register.
use Prim.Native.Nat.{ℕ, ◌+◌}
use mathlib.Core.Path.{◌≡◌}
use mathlib.Core.List.{map}
use Rattle.model.specs.Lists.{range, sum}
use Rattle.model.specs.Image.{word}
use Rattle.image.proofs.size_in_all.Given as goal

abbrev pub invariant-loop-r : goal.invariant-loop-r
invariant-loop-r l = l.total ≡ sum (map (λ (i : ℕ). word l.words (l.at + i)) (range 0 l.r))
