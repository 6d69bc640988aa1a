-- The angles are put in turn: after i turns of the loop the words of the first i stand.
use mathlib.Core.Path.{◌≡◌}
use mathlib.Core.List.{flat_map}
use lib.ListN.{length, take}
use lib.Seq.{sets}
use Rattle.model.specs.Records.{angle_words}
use Rattle.record_writer.proofs.put_angles.Given as goal

abbrev pub invariant-loop-i : goal.invariant-loop-i
invariant-loop-i l = (l.words ≡ sets l.initial.words l.start (flat_map angle_words (take l.i l.angles))) × (length l.words ≡ length l.initial.words)
