-- The words of a run, its output and its trace are those of the definition's outcome.
use Rattle.unit_words.proofs.AnswerWordsLaws.{exported}
use Rattle.unit_words.proofs.cowhirame_run.Goals as goal

pub returns : goal.returns
returns c = let run = c.run-ended.ensures in
    exported run c.numbers_of-numbers.ensures c.position_of-written.ensures
