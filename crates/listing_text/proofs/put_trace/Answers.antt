-- The lines of a trace are put call after call.
use Rattle.std.proofs.Common.{arith}
use Rattle.listing_text.proofs.EndTextLaws.{tracing_start, tracing_room, tracing_more, tracing_end}
use Rattle.listing_text.proofs.put_trace.Goals as goal

pub loop-i-init : goal.loop-i-init
loop-i-init c = tracing_start _ c.requires

pub put_from-requires : goal.put_from-requires
put_from-requires c = tracing_room c.loop-i.invariant c.loop-i-test.true c.requires

pub loop-i-preserved : goal.loop-i-preserved
loop-i-preserved c = tracing_more c.loop-i.invariant c.loop-i-test.true c.put_from.ensures

pub returns : goal.returns
returns c = tracing_end c.loop-i.invariant (omega arith)
