-- After j turns of the loop the qubits of the first j arguments stand in front.
use Rattle.argument.specs.Frames.{RoundQubits}
use Rattle.argument.proofs.run_scope.RunScope.qubits_in_round.Given as goal

abbrev pub invariant-loop-j : goal.invariant-loop-j
invariant-loop-j l = RoundQubits l.self.program.now.image.words.now l.self.number l.self.qubits.now l.a l.j l.i l.found
