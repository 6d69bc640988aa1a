-- Some bytes are put one after the other.
use Rattle.text.proofs.PutLaws.{putting_room, putting_more, bytes_next}
use Rattle.text.proofs.Text.put_bytes.Goals as goal

pub put_byte-requires : goal.put_byte-requires
put_byte-requires c = putting_room c.loop-byte.invariant _ (bytes_next _ _ c.loop-byte-test.true) c.requires

pub loop-byte-preserved : goal.loop-byte-preserved
loop-byte-preserved c = putting_more c.loop-byte.invariant (bytes_next _ _ c.loop-byte-test.true) c.put_byte.ensures
