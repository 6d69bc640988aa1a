-- The rows are made anew from the last gate down, each of rows that are not yet deeper.
use Rattle.tally.proofs.FigureTableLaws.{Deepened}
use Rattle.tally.proofs.deepen_table.Given as goal

abbrev pub invariant-loop-g : goal.invariant-loop-g
invariant-loop-g l = Deepened l.accepted.image.words.now l.levels l.g l.table
