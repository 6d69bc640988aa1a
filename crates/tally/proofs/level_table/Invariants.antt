-- The table is deepened as many times as bodies are opened.
use Rattle.model.specs.Image.{gates}
use Rattle.tally.specs.Weights.{FigureTable}
use Rattle.tally.proofs.level_table.Given as goal

abbrev pub invariant-loop-level : goal.invariant-loop-level
invariant-loop-level l = let w = l.accepted.image.words.now in FigureTable w l.level (gates w) l.table
