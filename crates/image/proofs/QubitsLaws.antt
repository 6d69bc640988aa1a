-- The sizes of the quantum registers add up to the qubits, and those of the classical ones to the bits.
use Prim.Native.Nat.{ℕ, ◌+◌}
use native.Mathlib.Nat.{add-zero}
use mathlib.Core.Path.{◌≡◌, refl, ◌∙◌}
use mathlib.Core.List.{List, map}
use Rattle.model.specs.Lists.{range, sum}
use Rattle.model.specs.Image.{word, quantum_registers, quantum_register_at, classical_register_at, qubits, bits, first_qubit, first_bit}
use Rattle.image.specs.declared.Layout.{Layout}
use Rattle.image.specs.Layout.{LayoutOf}

module _ (image : List ℕ) (l : Layout) (laid : LayoutOf image l) (at : ℕ) where
  pub qubits_are : at ≡ quantum_register_at image 0 → sum (map (λ i. word image (at + i)) (range 0 l.quantum_registers)) ≡ qubits image
  unfolding first_qubit
  qubits_are e = rw (e, laid.quantum_registers_is) refl

  pub bits_are : at ≡ classical_register_at image 0 → sum (map (λ i. word image (at + i)) (range 0 l.classical_registers)) ≡ bits image
  unfolding first_bit
  bits_are e = rw (e ∙ add-zero (quantum_register_at image (quantum_registers image)), laid.classical_registers_is) refl
