-- The records at the front of some words are put until no whole one stands.
use Rattle.std.proofs.Common.{◌-◌, length}
use Rattle.record_text.proofs.ReadFrontLaws.{Fronting}
use Rattle.record_text.proofs.put_front.Given as goal

abbrev pub invariant-loop-record : goal.invariant-loop-record
invariant-loop-record l = Fronting l.words l.initial.text l.at l.records l.text

abbrev pub decreases-loop-record : goal.decreases-loop-record
decreases-loop-record l = length l.words - l.at
