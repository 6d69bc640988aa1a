-- Document 01, "Records".
use Rattle.std.specs.Prelude.{ℕ, ◌-◌, ◌^◌, cond, length}
use mathlib.Core.List.{List, [], ◌∷◌, ◌++◌, flat_map}
use Rattle.rational.specs.declared.Rational64.{Rational64}
use Rattle.value.specs.declared.Value.{Value}

-- "0 head: qubits, bits, then register and offset for each qubit, then for each bit. 1 U: three angles (four words each: a's n, d, b's n, d, signed in two's complement), qubit. 2 CX. 3 opaque: gate, p, q, p angles, q qubits. 4 barrier: count, qubits. 5 measure: qubit, bit. 6 reset. 7 conditional start: first bit, size, value. 8 its end."
pub data Record : Type 0 where
  Head : (qubits bits : List (ℕ × ℕ)) → Record
  U : (theta phi lambda : Value) (qubit : ℕ) → Record
  CX : (control target : ℕ) → Record
  Opaque : (gate : ℕ) (angles : List Value) (qubits : List ℕ) → Record
  Barrier : (qubits : List ℕ) → Record
  Measure : (qubit bit : ℕ) → Record
  Reset : (qubit : ℕ) → Record
  ConditionalStart : (bit size value : ℕ) → Record
  ConditionalEnd : Record

unfoldable pub kind : Record → ℕ
kind (Head qs bs) = 0
kind (U theta phi lambda q) = 1
kind (CX a b) = 2
kind (Opaque g xs qs) = 3
kind (Barrier qs) = 4
kind (Measure q b) = 5
kind (Reset q) = 6
kind (ConditionalStart b n v) = 7
kind ConditionalEnd = 8

-- a fraction's two words, "signed in two's complement"
unfoldable pub fraction_words : Rational64 → List ℕ
fraction_words x = cond x.negative (2 ^ 64 - x.numer) x.numer ∷ x.denom ∷ []

-- "four words each: a's n, d, b's n, d"
unfoldable pub angle_words : Value → List ℕ
unfolding fraction_words
angle_words x = fraction_words x.a ++ fraction_words x.b

unfoldable pub pair : ℕ × ℕ → List ℕ
pair x = x.0 ∷ x.1 ∷ []

-- the words after the kind
unfoldable pub fields : Record → List ℕ
fields (Head qs bs) = length qs ∷ length bs ∷ (flat_map pair qs ++ flat_map pair bs)
fields (U theta phi lambda q) = angle_words theta ++ angle_words phi ++ angle_words lambda ++ q ∷ []
fields (CX a b) = a ∷ b ∷ []
fields (Opaque g xs qs) = g ∷ length xs ∷ length qs ∷ (flat_map angle_words xs ++ qs)
fields (Barrier qs) = length qs ∷ qs
fields (Measure q b) = q ∷ b ∷ []
fields (Reset q) = q ∷ []
fields (ConditionalStart b n v) = b ∷ n ∷ v ∷ []
fields ConditionalEnd = []

-- a record's words
unfoldable pub encode : Record → List ℕ
encode r = kind r ∷ fields r
