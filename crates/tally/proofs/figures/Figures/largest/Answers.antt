-- The largest of the nine is found from the first on.
use Rattle.std.proofs.Common.{ℕ, ◌≡◌, List, [], ◌∷◌, arith}
use Prim.Native.Nat.{max}
use Rattle.model.specs.Lists.{largest}
use Rattle.tally.proofs.figures.Figures.largest.Goals as goal

largest_two : (x y : ℕ) (l : List ℕ) → largest (x ∷ y ∷ l) ≡ largest (max x y ∷ l)
unfolding largest
largest_two x y l = omega arith

largest_one : (x : ℕ) → largest (x ∷ []) ≡ x
unfolding largest
largest_one x = omega arith

pub returns : goal.returns
returns c = simp (largest_two, largest_one) (cc)
