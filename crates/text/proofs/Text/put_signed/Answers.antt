-- A number in two's complement is put with its sign.
use Rattle.std.proofs.Common.{arith, sym}
use Rattle.text.proofs.PutLaws.{put_same, put_then, room_same, room_front, room_rest}
use Rattle.text.proofs.SignedTextLaws.{no_sign, minus_sign, with_sign}
use Rattle.text.proofs.Text.put_signed.Goals as goal

pub put_decimal-requires : goal.put_decimal-requires
put_decimal-requires c = room_same (no_sign _ c.if-n.true) c.requires

pub returns-then-n : goal.returns-then-n
returns-then-n c = put_same (sym (no_sign _ c.if-n.true)) c.put_decimal.ensures

pub put_byte-requires : goal.put_byte-requires
put_byte-requires c = room_front _ (minus_sign _ c.if-n.false) c.requires

pub put_decimal-requires-else-n : goal.put_decimal-requires-else-n
put_decimal-requires-else-n c = room_rest _ (with_sign _ _ c.if-n.false (omega arith) (omega arith) c.wrapping_neg.ensures) c.requires c.put_byte.ensures

pub returns-else-n : goal.returns-else-n
returns-else-n c = put_same (sym (with_sign _ _ c.if-n.false (omega arith) (omega arith) c.wrapping_neg.ensures)) (put_then c.put_byte.ensures c.put_decimal-else-n.ensures)
