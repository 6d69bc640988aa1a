-- The tests `declared` and `distinct` of specs/Claims.antt, and that a barrier's qubits rise, of a record before it is written as words.
use Prim.Native.Nat.{ℕ, ◌+◌}
use mathlib.Core.Bool.{Bool, true, not, cond}
use mathlib.Core.List.{List, [], ◌∷◌}
use lib.Dec.{leb, ltb, eqb}
use Rattle.model.specs.Lists.{every, all}
use Rattle.model.specs.Image.{gates, quantum_registers, classical_registers, quantum_size, classical_size, bits, gate_body}
use Rattle.model.specs.Records.{Record, Head, U, CX, Opaque, Barrier, Measure, Reset, ConditionalStart, ConditionalEnd}
use Rattle.model.specs.Claims.{in_register, differ, rises, is_qubit}

module _ (image : List ℕ) where
  unfoldable pub declared_record : Record → Bool
  declared_record (Head qs bs) =
      every (all (in_register (quantum_size image) (quantum_registers image)) qs ∷ all (in_register (classical_size image) (classical_registers image)) bs ∷ [])
  declared_record (U theta phi lambda q) = is_qubit image q
  declared_record (CX a b) = every (is_qubit image a ∷ is_qubit image b ∷ [])
  declared_record (Opaque g xs qs) = every (ltb g (gates image) ∷ all (is_qubit image) qs ∷ [])
  declared_record (Barrier qs) = all (is_qubit image) qs
  declared_record (Measure q b) = every (is_qubit image q ∷ ltb b (bits image) ∷ [])
  declared_record (Reset q) = is_qubit image q
  declared_record (ConditionalStart b n v) = leb (b + n) (bits image)
  declared_record ConditionalEnd = true

  unfoldable pub distinct_record : Record → Bool
  distinct_record (Head qs bs) = true
  distinct_record (U theta phi lambda q) = true
  distinct_record (CX a b) = not (eqb a b)
  distinct_record (Opaque g xs qs) = cond (eqb (gate_body image g) 0) (differ qs) true
  distinct_record (Barrier qs) = true
  distinct_record (Measure q b) = true
  distinct_record (Reset q) = true
  distinct_record (ConditionalStart b n v) = true
  distinct_record ConditionalEnd = true

unfoldable pub rises_record : Record → Bool
rises_record (Head qs bs) = true
rises_record (U theta phi lambda q) = true
rises_record (CX a b) = true
rises_record (Opaque g xs qs) = true
rises_record (Barrier qs) = rises qs
rises_record (Measure q b) = true
rises_record (Reset q) = true
rises_record (ConditionalStart b n v) = true
rises_record ConditionalEnd = true
