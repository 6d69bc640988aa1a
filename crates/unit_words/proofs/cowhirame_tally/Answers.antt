-- The words of a tally are those of the definition's answer.
use mathlib.Core.Path.{ap, ◌∙◌}
use Rattle.unit_words.specs.AnswerWords.{tally_words}
use Rattle.unit_words.proofs.cowhirame_tally.Goals as goal

pub returns : goal.returns
returns c = c.tally_words.ensures ∙ ap tally_words c.tally.ensures
