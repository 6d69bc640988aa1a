-- Each of the nine is added to its like.
use Rattle.tally.specs.Weights.{capped_figures, figure}
use Rattle.tally.proofs.figures.Figures.plus.Goals as goal

pub returns : goal.returns
unfolding capped_figures figure
returns c = cc
