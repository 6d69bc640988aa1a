-- What a read puts behind the front is what it takes of the input.
use Rattle.std.proofs.Common.{rules, subst, sym}
use Rattle.std.specs.Io.KnownBytes.{Consumes}
use Rattle.standard_input.proofs.ReadLaws.{front_longer, takes_more}
use Rattle.standard_input.proofs.read_most.Goals as goal

pub loop-done-preserved : goal.loop-done-preserved
loop-done-preserved g c =
    let read = c.in_ok-n.ensures in
    let before = c.loop-done.invariant in
    record {
      inside = search rules;
      read = subst (Consumes _ _) (sym (front_longer _ c.in_ok-n.n _ c.loop-done.room _ before.inside read.bound.0))
          (takes_more _ _ _ _ _ before.read read.bytes.0);
    }
