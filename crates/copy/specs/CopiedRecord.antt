-- What the copying of one record asks for and promises, word by word.
use Rattle.std.specs.Prelude.{ℕ, ◌+◌, ◌*◌, ◌≤◌, ◌≡◌, cond, List, ◌++◌, map, eqb, length, get_or, take, drop}
use Rattle.std.proofs.lemmas.List.Edits.{sets}
use Rattle.model.specs.Lists.{rising}
use Rattle.model.specs.Records.{Record, encode}

-- n words have room at a place after their own end
pub record LaterPlace (out : List ℕ) (from to n : ℕ) : Type 0 where
  pub after : from + n ≤ to
  pub fits : to + n ≤ length out

-- some words were put from a place on, and counted
pub record WordsPut (out : List ℕ) (to : ℕ) (words : List ℕ) (count : ℕ) (out' : List ℕ) : Type 0 where
  pub counted : count ≡ length words
  pub contents : out' ≡ sets out to words

-- ---- a gate's record, of kind 1, 2 or 3, that stands from a place on

-- the words before its qubits
unfoldable pub words_before_qubits : List ℕ → ℕ → ℕ
words_before_qubits out from = cond (eqb (get_or out from 0) 1) 13 (cond (eqb (get_or out from 0) 2) 1 (4 + 4 * get_or out (from + 2) 0))

-- how many qubits it has
unfoldable pub qubit_count : List ℕ → ℕ → ℕ
qubit_count out from = cond (eqb (get_or out from 0) 1) 1 (cond (eqb (get_or out from 0) 2) 2 (get_or out (from + 3) 0))

-- its length
abbrev pub gate_length : List ℕ → ℕ → ℕ
gate_length out from = words_before_qubits out from + qubit_count out from

-- its words, the qubits renamed
abbrev pub renamed_gate : (ℕ → ℕ) → List ℕ → ℕ → List ℕ
renamed_gate r out from = take (words_before_qubits out from) (drop from out) ++ map r (take (qubit_count out from) (drop (from + words_before_qubits out from) out))

-- ---- a barrier that stands from a place on

-- how many qubits it has
abbrev pub barrier_count : List ℕ → ℕ → ℕ
barrier_count out from = get_or out (from + 1) 0

-- its length
abbrev pub barrier_length : List ℕ → ℕ → ℕ
barrier_length out from = 2 + barrier_count out from

-- its qubits
abbrev pub barrier_qubits : List ℕ → ℕ → List ℕ
barrier_qubits out from = take (barrier_count out from) (drop (from + 2) out)

-- the words of the barrier of the renamed qubits, in rising order again
abbrev pub renamed_barrier : (ℕ → ℕ) → List ℕ → ℕ → List ℕ
renamed_barrier r out from = encode (Record.Barrier (rising (map r (barrier_qubits out from))))

-- ---- either of them, by its kind

-- the length of the record
unfoldable pub body_record_length : List ℕ → ℕ → ℕ
body_record_length out from = cond (eqb (get_or out from 0) 4) (barrier_length out from) (gate_length out from)

-- the words of the record, its qubits renamed
unfoldable pub renamed_words : (ℕ → ℕ) → List ℕ → ℕ → List ℕ
renamed_words r out from = cond (eqb (get_or out from 0) 4) (renamed_barrier r out from) (renamed_gate r out from)
