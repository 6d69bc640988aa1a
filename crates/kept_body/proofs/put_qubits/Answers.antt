-- The qubits are put in turn: after i turns of the loop the first i of them stand.
use Rattle.kept_body.proofs.SlotLaws.{put_next_word}
use Rattle.kept_body.proofs.put_qubits.Goals as goal

pub loop-i-preserved : goal.loop-i-preserved
loop-i-preserved c = put_next_word c.args.slot.now c.args.start c.loop-i.i c.args.qubits.now c.loop-i-test.true c.loop-i.invariant
