-- What is read back of an input stands in front of the text.
use Rattle.text.proofs.PutLaws.{in_front}
use Rattle.record_text.proofs.read_back.Goals as goal

pub returns : goal.returns
returns c = in_front c.new-text.ensures.contents c.new-text.ensures.empty c.put_read_back.ensures
