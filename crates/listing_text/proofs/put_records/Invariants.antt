-- The lines of records are put record after record.
use Rattle.std.proofs.Common.{◌-◌, length}
use Rattle.listing_text.proofs.RecordsLaws.{Reading}
use Rattle.listing_text.proofs.put_records.Given as goal

abbrev pub invariant-loop-at : goal.invariant-loop-at
invariant-loop-at l = Reading l.words l.initial.text l.at l.text

abbrev pub decreases-loop-at : goal.decreases-loop-at
decreases-loop-at l = length l.words - l.at
