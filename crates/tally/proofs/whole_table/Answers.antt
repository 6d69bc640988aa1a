-- Each row is made of the rows before it, which are whole.
use Rattle.std.proofs.Common.{length, length-set, ◌≡◌, arith}
use Rattle.model.proofs.Accepted.{accepts}
use Rattle.tally.proofs.FigureTableLaws.{whole_next}
use Rattle.tally.proofs.whole_table.Goals as goal

pub loop-g-preserved : goal.loop-g-preserved
loop-g-preserved c = let a = c.args.accepted.now in
    let i = a.image in
    let long : length c.loop-g.table ≡ 128 = simp length-set at (rw c.fill_row.ensures at c.fill_row.array_long) in
    whole_next i.words.now _ (accepts _ a.accepted) c.loop-g.g c.loop-g.table _ (omega (arith, i.laid.gates_is)) c.loop-g-test.true c.loop-g.invariant (omega (arith, long, i.laid.gates_is, i.laid.few_gates)) c.fill_row.ensures
