-- The words of a check are those of the definition's flaw.
use mathlib.Core.Path.{ap, ◌∙◌}
use Rattle.unit_words.specs.AnswerWords.{check_words}
use Rattle.unit_words.proofs.cowhirame_check.Goals as goal

pub returns : goal.returns
returns c = c.check_words.ensures ∙ ap check_words c.check.ensures
