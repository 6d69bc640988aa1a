-- The depth and the image are read, and the line of the tally is put.
use Rattle.std.proofs.Common.{◌-◌, length, drop, arith, length-drop}
use lib.Seq.{take_all}
use Rattle.text.proofs.WordLaws.{words_behind}
use Rattle.answer_text.proofs.AnswersLaws.{tally_put}
use Rattle.answer_text.proofs.put_tally.Goals as goal

pub returns : goal.returns
returns c =
    let input = c.args.input.now in
    let behind = words_behind 8193 input (take_all (length input - 8) (drop 8 input) (omega (arith, length-drop 8 input))) c.words_in-image.ensures in
    tally_put input behind c.first_word-depth.ensures c.cowhirame_tally.ensures c.put_number_line.ensures
