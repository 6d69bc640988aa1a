-- The answer of the check stands in front of the text.
use Rattle.text.proofs.PutLaws.{in_front}
use Rattle.answer_text.proofs.check_answer.Goals as goal

pub returns : goal.returns
returns c = in_front c.new-text.ensures.contents c.new-text.ensures.empty c.put_check_answer.ensures
