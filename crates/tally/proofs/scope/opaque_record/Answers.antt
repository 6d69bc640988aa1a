-- An opaque gate's record is one of kind 3.
use Rattle.std.proofs.Common.{arith}
use Rattle.tally.proofs.CappedLaws.{opaque_is}
use Rattle.tally.proofs.scope.opaque_record.Goals as goal

pub returns : goal.returns
returns c = opaque_is _ _ (omega arith)
