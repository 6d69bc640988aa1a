-- The image is read, capped where it is too long, and the line of its check is put.
use Rattle.std.proofs.Common.{◌/◌, length}
use Rattle.text.proofs.WordLaws.{words_read}
use Rattle.answer_text.proofs.AnswersLaws.{check_put}
use Rattle.answer_text.proofs.put_check.Goals as goal

pub returns : goal.returns
returns c =
    let input = c.args.input.now in
    check_put input (words_read 8193 (length input / 8) input c.words_in-image.ensures) c.cowhirame_check.ensures c.put_number_line.ensures
