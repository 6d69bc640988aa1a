-- The whole is main's statements and the head.
use Rattle.std.proofs.Common.{◌∙◌}
use Rattle.tally.proofs.CappedLaws.{sum_of, alike}
use Rattle.tally.proofs.BodyTallyLaws.{total_is}
use Rattle.tally.proofs.total_figures.Goals as goal

pub returns : goal.returns
returns c = let a = c.args in
    sum_of _ _ _ _ _ c.body_figures.ensures c.head_figures.ensures c.plus.ensures ∙ alike _ _ (total_is a.accepted.now.image.words.now a.levels)
