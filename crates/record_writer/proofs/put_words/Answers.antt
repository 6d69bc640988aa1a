-- The words are copied over a part of the output.
use Prim.Native.Nat.{◌+◌, ◌-◌}
use native.Mathlib.Omega.{arith}
use mathlib.Core.Path.{ap, ◌∙◌}
use lib.ListN.{length}
use borrow.Rule.Slice.PartMut.{put_mid}
use Rattle.record_writer.proofs.PutLaws.{part_put}
use Rattle.record_writer.proofs.put_words.Goals as goal

pub returns : goal.returns
returns c = let a = c.args in
    ap (put_mid a.start (a.start + length a.words.now - a.start) a.out.now) c.copy_from_slice.ensures.after ∙ part_put a.out.now a.words.now a.start _ (omega arith) (omega arith)
