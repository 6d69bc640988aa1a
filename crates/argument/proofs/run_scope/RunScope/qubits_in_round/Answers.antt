-- After j turns of the loop the qubits of the first j arguments stand in front.
use native.Mathlib.Omega.{arith}
use mathlib.Core.Path.{refl}
use Rattle.argument.proofs.ArgumentLaws.{in_range, qubit_is}
use Rattle.argument.proofs.CallArgumentsLaws.{qubits_none, qubits_more, argument_listed, argument_is_ok, argument_in_round}
use Rattle.argument.proofs.run_scope.RunScope.qubits_in_round.Goals as goal

pub loop-j-init : goal.loop-j-init
loop-j-init c = qubits_none _ _ _ _ _ refl

pub resolve_qreg-requires : goal.resolve_qreg-requires
resolve_qreg-requires c = record { listed = argument_listed c.requires.0 c.loop-j-test.true; ok = argument_is_ok c.requires.0 c.loop-j-test.true }

pub number_in_round-requires : goal.number_in_round-requires
number_in_round-requires c = let s = c.args.self.now in
    in_range s.program.now.accepted s.in_scope _ _ (argument_is_ok c.requires.0 c.loop-j-test.true) c.resolve_qreg.ensures
    (argument_in_round c.requires.0 c.loop-j-test.true _ c.requires.1)

pub loop-j-preserved : goal.loop-j-preserved
loop-j-preserved c = let s = c.args.self.now in
    qubits_more _ _ _ _ _ (omega (arith, c.loop-j-test.true, c.requires.0.few)) c.loop-j.invariant (qubit_is s.program.now.accepted s.in_scope _ _ _ c.resolve_qreg.ensures c.number_in_round.ensures)
