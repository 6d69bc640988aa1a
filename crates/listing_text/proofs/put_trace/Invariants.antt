-- The lines of a trace are put call after call.
use Rattle.listing_text.proofs.EndTextLaws.{Tracing}
use Rattle.listing_text.proofs.put_trace.Given as goal

abbrev pub invariant-loop-i : goal.invariant-loop-i
invariant-loop-i l = Tracing l.trace l.initial.text l.i l.text
