-- The words that are put are the four words of an angle.
use mathlib.Core.Path.{ap, ◌∙◌}
use lib.Seq.{sets}
use Rattle.record_writer.proofs.AngleWordsLaws.{angle_put}
use Rattle.record_writer.proofs.put_angle.Goals as goal

pub returns : goal.returns
returns c = let a = c.args in
    c.put_words.ensures ∙ ap (sets a.words.now a.start) (angle_put a.x c.signed_numerator.ensures c.signed_numerator-2.ensures)
