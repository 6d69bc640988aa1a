-- The capped figures are the tally if all are below the limit, and else one is too large.
use Rattle.std.proofs.Common.{◌-◌, ◌≡◌, min, arith}
use Rattle.model.specs.Image.{gates}
use Rattle.tally.proofs.FiguresLaws.{tally_figures, tally_large}
use Rattle.tally.proofs.accepted_tally.Goals as goal

pub returns-then-largest-lt-FIGURE_LIMIT : goal.returns-then-largest-lt-FIGURE_LIMIT
returns-then-largest-lt-FIGURE_LIMIT c = let a = c.args.accepted.now in
    let w = a.image.words.now in
    let e : c.opened_levels-levels.result ≡ min (c.args.depth - 1) (gates w) = rw a.image.laid.gates_is at c.opened_levels-levels.ensures in
    tally_figures w c.args.depth _ _ a.accepted e c.total_figures-figures.ensures (omega arith)

pub returns-else-largest-lt-FIGURE_LIMIT : goal.returns-else-largest-lt-FIGURE_LIMIT
returns-else-largest-lt-FIGURE_LIMIT c = let a = c.args.accepted.now in
    let w = a.image.words.now in
    let e : c.opened_levels-levels.result ≡ min (c.args.depth - 1) (gates w) = rw a.image.laid.gates_is at c.opened_levels-levels.ensures in
    tally_large w c.args.depth _ _ a.accepted e c.total_figures-figures.ensures (omega arith)
