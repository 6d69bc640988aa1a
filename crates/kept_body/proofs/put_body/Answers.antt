-- The four numbers, the words of the angles and the qubits are put one after another.
use native.Mathlib.Omega.{arith}
use Rattle.kept_body.proofs.SlotLaws.{slot_filled}
use Rattle.kept_body.proofs.put_body.Goals as goal

pub returns : goal.returns
returns c = let a = c.args in
    slot_filled a.slot.now a.frame.now.qubits a.frame.now.angles _ _ _ _ a.call c.requires.0 (omega (arith, c.requires.1.1)) (omega (arith, c.requires.1.0.few, c.requires.1.0.sixteen)) c.put_angles.ensures c.put_qubits.ensures
