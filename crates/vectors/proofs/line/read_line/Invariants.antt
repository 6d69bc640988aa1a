-- The words that are read are no more than there is room for.
use Rattle.std.proofs.Common.{◌≤◌, length}
use Rattle.vectors.proofs.line.read_line.Given as goal

abbrev pub invariant-loop-part : goal.invariant-loop-part
invariant-loop-part l = l.n ≤ length l.words
