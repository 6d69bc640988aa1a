-- An interrupted read takes no byte of the input, and the room keeps its length.
use Rattle.std.proofs.Common.{◌≡◌, length}
use Rattle.std.specs.Io.KnownBytes.{Keeps}
use Rattle.standard_input.proofs.read_again.Given as goal

abbrev pub invariant-loop : goal.invariant-loop
invariant-loop g l = record {
  room : length l.room ≡ length l.initial.room;
  kept : Keeps (g.R.Read.remaining l.initial.input) (g.R.Read.remaining l.input);
}
