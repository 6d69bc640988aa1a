-- The records of some input are read and put, and the last line behind them.
use Rattle.std.proofs.Common.{◌/◌, length, min, ap, arith}
use Rattle.model.proofs.WordsOfLaws.{length_words}
use Rattle.text.proofs.WordLaws.{words_read}
use Rattle.record_text.proofs.ReadBackLaws.{lines_room, last_room, back_put}
use Rattle.record_text.proofs.put_read_back.Goals as goal

pub put_front-front-requires : goal.put_front-front-requires
put_front-front-requires c =
    let input = c.args.input.now in
    lines_room input (words_read 65536 (length input / 8) input c.words_in-words.ensures) c.args.text.now c.requires

pub put_last-requires-clause-words : goal.put_last-requires-clause-words
put_last-requires-clause-words c =
    let input = c.args.input.now in
    let size = ap length (words_read 65536 (length input / 8) input c.words_in-words.ensures) in
    omega (arith, c.put_front-front.ensures.inside, size, length_words (min (length input / 8) 65536) input)

pub put_last-requires-clause-room : goal.put_last-requires-clause-room
put_last-requires-clause-room c =
    let input = c.args.input.now in
    last_room input (words_read 65536 (length input / 8) input c.words_in-words.ensures) c.put_front-front.ensures c.requires

pub returns : goal.returns
returns c =
    let input = c.args.input.now in
    back_put input (words_read 65536 (length input / 8) input c.words_in-words.ensures) c.put_front-front.ensures c.put_last.ensures
