-- The line of a record is put word after word.
use Rattle.std.proofs.Common.{arith, sym, []}
use Rattle.text.proofs.PutLaws.{put_same, put_then, put_length, room_front, room_rest, putting_start, putting_room, putting_more, putting_last}
use Rattle.text.proofs.RecordLineLaws.{line_start, line_next, line_end, line_room, line_most}
use Rattle.text.proofs.Text.put_record_line.Goals as goal

pub put_decimal-requires : goal.put_decimal-requires
put_decimal-requires c = room_front _ (line_start c.args.words.now) (line_room c.args.words.now c.requires.some (λ j. (c.type_inv.words j).fits) c.requires.room)

pub loop-i-init : goal.loop-i-init
loop-i-init c = putting_start _ (omega (arith, put_length c.put_decimal.ensures))

pub put_word-requires : goal.put_word-requires
put_word-requires c =
    let words = c.args.words.now in
    let behind = room_rest _ (line_start words) (line_room words c.requires.some (λ j. (c.type_inv.words j).fits) c.requires.room) c.put_decimal.ensures in
    putting_room c.loop-i.invariant _ (line_next words _ c.loop-i-test.true c.is_numerator.ensures) behind

pub loop-i-preserved : goal.loop-i-preserved
loop-i-preserved c = putting_more c.loop-i.invariant (line_next c.args.words.now _ c.loop-i-test.true c.is_numerator.ensures) c.put_word.ensures

pub end_line-requires : goal.end_line-requires
end_line-requires c =
    let words = c.args.words.now in
    let behind = room_rest _ (line_start words) (line_room words c.requires.some (λ j. (c.type_inv.words j).fits) c.requires.room) c.put_decimal.ensures in
    putting_room c.loop-i.invariant [] (line_end _ _ c.loop-i-test.false) behind

pub returns : goal.returns
returns c =
    let words = c.args.words.now in
    let behind = putting_last c.loop-i.invariant (put_same (sym (line_end _ _ c.loop-i-test.false)) c.end_line.ensures) in
    line_most words c.requires.some (λ j. (c.type_inv.words j).fits) (put_same (sym (line_start words)) (put_then c.put_decimal.ensures behind))
