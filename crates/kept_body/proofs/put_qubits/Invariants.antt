-- The qubits are put in turn: after i turns of the loop the first i of them stand.
use mathlib.Core.Path.{◌≡◌}
use lib.ListN.{take}
use lib.Seq.{sets}
use Rattle.kept_body.proofs.put_qubits.Given as goal

abbrev pub invariant-loop-i : goal.invariant-loop-i
invariant-loop-i l = l.slot ≡ sets l.initial.slot l.start (take l.i l.qubits)
