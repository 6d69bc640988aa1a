-- There are no more lines than bytes, no more vectors than lines, and no more that agree than vectors; each turn reads a line.
use Rattle.std.proofs.Common.{◌≤◌, ◌+◌, length}
use Rattle.vectors.proofs.replay.Given as goal

abbrev pub invariant-loop-text : goal.invariant-loop-text
invariant-loop-text g l = record {
  lines : l.line_number + length l.rest ≤ length l.input;
  vectors : l.vectors ≤ l.line_number;
  agree : l.agree ≤ l.vectors;
}

abbrev pub decreases-loop-text : goal.decreases-loop-text
decreases-loop-text g l = length l.rest
