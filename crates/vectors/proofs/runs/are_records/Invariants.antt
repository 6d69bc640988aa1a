-- The records that are read stand within the words.
use Rattle.std.proofs.Common.{◌≤◌, length}
use Rattle.vectors.proofs.runs.are_records.Given as goal

abbrev pub invariant-loop : goal.invariant-loop
invariant-loop l = l.at ≤ length l.words
