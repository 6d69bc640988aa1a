-- The rows are made anew from the last gate down, each of rows that are not yet deeper.
use Rattle.std.proofs.Common.{length, length-set, ◌≡◌, arith}
use Rattle.tally.proofs.FigureTableLaws.{deepened_none, deepened_next, deepened_done, tabled_fewer}
use Rattle.tally.proofs.deepen_table.Goals as goal

pub loop-g-init : goal.loop-g-init
loop-g-init c = let i = c.args.accepted.now.image in
    deepened_none i.words.now c.args.levels _ c.args.table.now i.laid.gates_is c.requires

pub fill_row-requires : goal.fill_row-requires
fill_row-requires c = let i = c.args.accepted.now.image in
    (tabled_fewer i.words.now c.args.levels c.loop-g.g _ _ (omega arith) c.loop-g.invariant.0, omega (arith, i.laid.gates_is))

pub loop-g-preserved : goal.loop-g-preserved
loop-g-preserved c = let i = c.args.accepted.now.image in
    let long : length c.loop-g.table ≡ 128 = simp length-set at (rw c.fill_row.ensures at c.fill_row.array_long) in
    deepened_next i.words.now c.args.levels c.loop-g.g c.loop-g.table _ c.loop-g.invariant c.loop-g-test.true (omega (arith, long, i.laid.gates_is, i.laid.few_gates)) c.fill_row.ensures

pub returns : goal.returns
returns c = let i = c.args.accepted.now.image in
    deepened_done i.words.now c.args.levels c.loop-g.g c.loop-g.table c.loop-g-test.false c.loop-g.invariant
