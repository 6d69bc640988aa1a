-- The qubits differ exactly where no overlap is found.
use native.Mathlib.Omega.{arith}
use Rattle.kept_body.proofs.SlotLaws.{distinct_if_none}
use Rattle.kept_body.proofs.are_distinct.Goals as goal

pub returns : goal.returns
returns c = distinct_if_none c.args.qubits.now c.args.n (omega (arith, c.requires.few, c.told-qubits)) _ _ c.is_none.ensures c.first_overlap.ensures
