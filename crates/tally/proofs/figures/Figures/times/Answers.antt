-- Each of the nine is taken as often as there are rounds.
use Rattle.tally.specs.Weights.{capped_figures, figure}
use Rattle.tally.proofs.figures.Figures.times.Goals as goal

pub returns : goal.returns
unfolding capped_figures figure
returns c = cc
