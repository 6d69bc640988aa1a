-- The words of a check are its flaw's number and place.
use Rattle.image.specs.Answer.{refusal_flaw}
use Rattle.unit_words.proofs.AnswerWordsLaws.{check_words_lem}
use Rattle.unit_words.proofs.check_words.Goals as goal

pub returns-in-Err : goal.returns-in-Err
returns-in-Err c = rw (c.in-Err.is, c.number.ensures, c.place.ensures) (check_words_lem (refusal_flaw c.in-Err.refusal))
