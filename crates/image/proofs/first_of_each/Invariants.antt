-- The total of the sizes so far is where the next register starts.
use Prim.Native.Nat.{ℕ, ◌+◌}
use mathlib.Core.Path.{◌≡◌}
use mathlib.Core.List.{map}
use lib.ListN.{length}
use Rattle.model.specs.Lists.{range, sum}
use Rattle.model.specs.Image.{word}
use Rattle.image.specs.RegisterStarts.{RegisterStarts}
use Rattle.image.proofs.first_of_each.Given as goal

abbrev pub invariant-loop-r : goal.invariant-loop-r
invariant-loop-r l = (length l.firsts ≡ length l.initial.firsts) × (l.total ≡ sum (map (λ (i : ℕ). word l.words (l.at + i)) (range 0 l.r))) × RegisterStarts (λ (i : ℕ). word l.words (l.at + i)) l.r l.firsts
