-- The angles are put in turn: after i turns of the loop the words of the first i stand.
use mathlib.Core.Path.{◌≡◌}
use mathlib.Core.List.{flat_map}
use lib.ListN.{length, take}
use lib.Seq.{sets}
use Rattle.kept_body.specs.Slot.{words_of_value}
use Rattle.kept_body.proofs.put_angles.Given as goal

abbrev pub invariant-loop-i : goal.invariant-loop-i
invariant-loop-i l = (l.slot ≡ sets l.initial.slot 4 (flat_map words_of_value (take l.i l.angles))) × (length l.slot ≡ length l.initial.slot)
