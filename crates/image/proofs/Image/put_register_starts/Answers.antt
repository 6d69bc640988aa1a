-- The quantum registers' starts stand in front, and the classical ones' in the part behind them, which is lent on its own.
use Rattle.image.proofs.RegisterStartsLaws.{part_length, quantum_fits, classical_fits, both_starts}
use Rattle.image.proofs.Image.put_register_starts.Goals as goal

pub first_of_each-requires : goal.first_of_each-requires
first_of_each-requires c = quantum_fits c.args.self.now.laid c.requires c.quantum_register_at.ensures

pub first_of_each-requires-2 : goal.first_of_each-requires-2
first_of_each-requires-2 c = classical_fits c.args.self.now.laid c.requires
    (part_length c.args.self.now.layout.quantum_registers c.first_of_each.new.firsts c.args.self.now.laid.quantum_registers_is c.first_of_each.auto.firsts)
    c.classical_register_at.ensures

pub returns : goal.returns
returns c = both_starts c.args.self.now.laid c.requires _ _ _ c.quantum_register_at.ensures
    c.classical_register_at.ensures c.first_of_each.ensures c.first_of_each-2.ensures
