-- After g turns of the loop the width is enough for the bodies of the first g gates.
use Rattle.kept_body.proofs.SlotLaws.{WideFor}
use Rattle.kept_body.proofs.slot_width.Given as goal

abbrev pub invariant-loop-g : goal.invariant-loop-g
invariant-loop-g l = WideFor l.image.words.now l.g l.width
