-- The words of the record reader's answer are those of what the definition finds.
use mathlib.Core.Path.{ap, ◌∙◌}
use Rattle.unit_words.specs.AnswerWords.{next_words}
use Rattle.unit_words.proofs.cowhirame_next.Goals as goal

pub returns : goal.returns
returns c = c.next_words.ensures ∙ ap next_words c.next_at.ensures
