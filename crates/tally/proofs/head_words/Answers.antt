-- The head has three words, and two for each qubit and each bit.
use Rattle.std.proofs.Common.{ℕ, ◌≤◌, ◌≡◌, ◌∙◌, arith}
use Rattle.model.specs.Image.{qubits, bits}
use Rattle.model.proofs.Accepted.{accepts}
use Rattle.image.proofs.QubitsLaws.{qubits_are, bits_are}
use Rattle.tally.proofs.head_words.Goals as goal
use Rattle.tally.proofs.head_words.Goals.{After-size_in_all-classical}

-- the two sums are the qubits and the bits, of which there are few
record Sums (q k w e : ℕ) : Type 0 where
  pub quantum : q ≡ w
  pub classical : k ≡ e
  pub few_qubits : w ≤ 4096
  pub few_bits : e ≤ 4096

sums : (c : After-size_in_all-classical)
    → (let w = c.args.accepted.now.image.words.now in Sums c.size_in_all-quantum.result c.size_in_all-classical.result (qubits w) (bits w))
sums c = let i = c.args.accepted.now.image in
    let a = accepts i.words.now c.args.accepted.now.accepted in
    record {
      quantum = c.size_in_all-quantum.ensures ∙ qubits_are i.words.now i.layout i.laid _ c.quantum_register_at.ensures.is;
      classical = c.size_in_all-classical.ensures ∙ bits_are i.words.now i.layout i.laid _ c.classical_register_at.ensures.is;
      few_qubits = a.few_qubits;
      few_bits = a.few_bits;
    }

pub size_in_all-quantum-requires : goal.size_in_all-quantum-requires
size_in_all-quantum-requires c = let i = c.args.accepted.now.image in
    let few = (accepts i.words.now c.args.accepted.now.accepted).few_qubits in
    (c.quantum_register_at.ensures.small, omega arith, omega (arith, few, qubits_are i.words.now i.layout i.laid _ c.quantum_register_at.ensures.is))

pub size_in_all-classical-requires : goal.size_in_all-classical-requires
size_in_all-classical-requires c = let i = c.args.accepted.now.image in
    let few = (accepts i.words.now c.args.accepted.now.accepted).few_bits in
    (c.classical_register_at.ensures.small, omega arith, omega (arith, few, bits_are i.words.now i.layout i.laid _ c.classical_register_at.ensures.is))

pub overflow_add-result : goal.overflow_add-result
overflow_add-result c = let k = sums (goal.at.overflow_add-result c).After-size_in_all-classical in record { fits = omega arith }

pub overflow_mul-result : goal.overflow_mul-result
overflow_mul-result c = let k = sums (goal.at.overflow_mul-result c).After-size_in_all-classical in record { fits = omega arith }

pub overflow_add-result-2 : goal.overflow_add-result-2
overflow_add-result-2 c = let k = sums (goal.at.overflow_add-result-2 c).After-size_in_all-classical in record { fits = omega arith }

pub returns : goal.returns
returns c = let k = sums (goal.at.returns c).After-size_in_all-classical in omega arith
