-- The table has room for the starts of all registers, and says where each starts.
use Prim.Native.Nat.{ℕ}
use lib.ListN.{length-replicate}
use Rattle.model.proofs.Accepted.{accepts}
use Rattle.linearize.proofs.MainContextLaws.{registers_fit}
use Rattle.linearize.proofs.visit_with_register_starts.Goals as goal

pub put_register_starts-requires : goal.put_register_starts-requires
put_register_starts-requires g c = let a = c.args.accepted.now in
    registers_fit a.image.laid (accepts _ a.accepted) _ (rw (length-replicate {A = ℕ} g.row.N 0) c.requires.1)

pub invariant_of-program : goal.invariant_of-program
invariant_of-program g c = record { accepted = accepts _ c.args.accepted.now.accepted; starts = c.put_register_starts.ensures.quantum }

pub visit_keeping_values-requires : goal.visit_keeping_values-requires
visit_keeping_values-requires g c = record { start = c.requires.0; starts = c.put_register_starts.ensures }
