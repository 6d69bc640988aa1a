-- The angles that were compared are the same: after i turns of the loop the first i of them are.
use lib.Dec.{T}
use Rattle.kept_body.specs.Slot.{same_angles}
use Rattle.kept_body.proofs.same_angles.Given as goal

abbrev pub invariant-loop-i : goal.invariant-loop-i
invariant-loop-i l = T (same_angles l.slot l.angles l.i)
