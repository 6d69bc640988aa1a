-- The answer of the tally stands in front of the text.
use Rattle.text.proofs.PutLaws.{in_front}
use Rattle.answer_text.proofs.tally_answer.Goals as goal

pub returns : goal.returns
returns c = in_front c.new-text.ensures.contents c.new-text.ensures.empty c.put_tally_answer.ensures
