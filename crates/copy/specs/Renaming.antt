-- Qubits that are renamed, and the records that have them.
use Rattle.std.specs.Prelude.{ℕ, cond, eqb}
use mathlib.Core.List.{List, [], ◌∷◌, map, flat_map}
use Rattle.model.specs.Lists.{rising}
use Rattle.model.specs.Records.{Record, encode}

-- the renaming of some qubits to others, by their places: a qubit becomes the one that stands where it stands first, and stays itself where it stands nowhere
unfoldable pub renaming : List ℕ → List ℕ → ℕ → ℕ
renaming [] qs' x = x
renaming (q ∷ qs) [] x = x
renaming (q ∷ qs) (q' ∷ qs') x = let later = renaming qs qs' x in cond (eqb x q) q' later

-- a record with other qubits: a barrier is sorted again
unfoldable pub renamed_record : (ℕ → ℕ) → Record → Record
renamed_record r (Record.Head qs bs) = Record.Head qs bs
renamed_record r (Record.U theta phi lambda q) = Record.U theta phi lambda (r q)
renamed_record r (Record.CX a b) = Record.CX (r a) (r b)
renamed_record r (Record.Opaque g xs qs) = Record.Opaque g xs (map r qs)
renamed_record r (Record.Barrier qs) = Record.Barrier (rising (map r qs))
renamed_record r (Record.Measure q b) = Record.Measure (r q) b
renamed_record r (Record.Reset q) = Record.Reset (r q)
renamed_record r (Record.ConditionalStart b n v) = Record.ConditionalStart b n v
renamed_record r Record.ConditionalEnd = Record.ConditionalEnd

-- the words of some records, each with other qubits
abbrev pub copied_words : (ℕ → ℕ) → List Record → List ℕ
copied_words r rs = flat_map encode (map (renamed_record r) rs)
