-- The answer of the check is its line, or 1 0 of a malformed input.
use Rattle.text.proofs.PutLaws.{put_same}
use Rattle.answer_text.proofs.AnswersLaws.{check_within_word, check_whole}
use Rattle.answer_text.proofs.put_check_answer.Goals as goal

pub returns-then-input-ne0 : goal.returns-then-input-ne0
returns-then-input-ne0 c = put_same (check_within_word c.args.input.now c.if-input-ne0.true) c.put_number_line.ensures

pub returns-else-input-ne0 : goal.returns-else-input-ne0
returns-else-input-ne0 c = put_same (check_whole c.args.input.now c.if-input-ne0.false) c.put_check.ensures
