-- The records at the front of some words are put until no whole one stands.
use Rattle.std.proofs.Common.{arith}
use Rattle.std.proofs.lemmas.Bool.Decides.{nat_tests}
use Rattle.record_text.proofs.ReadFrontLaws.{fronting_start, front_some, front_inside, front_room, front_more, front_end}
use Rattle.record_text.proofs.put_front.Goals as goal

pub loop-record-init : goal.loop-record-init
loop-record-init c = fronting_start _ c.requires

pub returns-then-is_empty : goal.returns-then-is_empty
returns-then-is_empty c = front_end c.loop-record.invariant c.next_record-record.ensures (grind (arith, nat_tests))

pub put_record_line-requires-clause-room : goal.put_record_line-requires-clause-room
put_record_line-requires-clause-room c = front_room c.loop-record.invariant c.next_record-record.ensures (grind (arith, nat_tests)) c.requires

pub loop-record-smaller : goal.loop-record-smaller
loop-record-smaller c = omega (arith, front_some c.loop-record.invariant c.next_record-record.ensures (grind (arith, nat_tests)), front_inside c.loop-record.invariant c.next_record-record.ensures (grind (arith, nat_tests)))

pub loop-record-preserved : goal.loop-record-preserved
loop-record-preserved c = front_more c.loop-record.invariant c.next_record-record.ensures (grind (arith, nat_tests)) c.put_record_line.ensures
