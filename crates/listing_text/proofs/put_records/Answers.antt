-- The lines of records are put record after record.
use Rattle.std.proofs.Common.{arith}
use Rattle.listing_text.proofs.RecordsLaws.{reading_start, next_some, next_room, reading_more, reading_end}
use Rattle.listing_text.proofs.put_records.Goals as goal

pub loop-at-init : goal.loop-at-init
loop-at-init c = reading_start c.requires.records c.requires.room

pub put_record_line-requires-clause-some : goal.put_record_line-requires-clause-some
put_record_line-requires-clause-some c = next_some c.loop-at.invariant c.loop-at-test.true c.next_record-record.ensures

pub put_record_line-requires-clause-room : goal.put_record_line-requires-clause-room
put_record_line-requires-clause-room c = next_room c.loop-at.invariant c.loop-at-test.true c.next_record-record.ensures c.requires.room

pub loop-at-smaller : goal.loop-at-smaller
loop-at-smaller c = omega (arith, c.loop-at-test.true, next_some c.loop-at.invariant c.loop-at-test.true c.next_record-record.ensures)

pub loop-at-preserved : goal.loop-at-preserved
loop-at-preserved c = reading_more c.loop-at.invariant c.loop-at-test.true c.next_record-record.ensures c.put_record_line.ensures

pub returns : goal.returns
returns c = reading_end c.loop-at.invariant c.loop-at-test.false
