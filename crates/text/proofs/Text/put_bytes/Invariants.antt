-- The first bytes are put.
use Rattle.std.proofs.Common.{drop}
use Rattle.text.proofs.PutLaws.{Putting}
use Rattle.text.proofs.Text.put_bytes.Given as goal

abbrev pub invariant-loop-byte : goal.invariant-loop-byte
invariant-loop-byte l = Putting l.bytes (drop l.byte-index l.bytes) l.initial.self l.self
