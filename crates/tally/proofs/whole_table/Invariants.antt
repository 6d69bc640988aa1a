-- Each row is made of the rows before it, which are whole.
use Rattle.tally.specs.Weights.{FigureTable}
use Rattle.tally.proofs.whole_table.Given as goal

abbrev pub invariant-loop-g : goal.invariant-loop-g
invariant-loop-g l = FigureTable l.accepted.image.words.now l.gates l.g l.table
