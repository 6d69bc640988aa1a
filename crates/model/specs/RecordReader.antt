-- Document 01, "Reader": the record reader.
use Rattle.std.specs.Prelude.{ℕ, zero, suc, ◌+◌, ◌-◌, ◌*◌, ◌&&◌, cond, List, [], ◌∷◌, length, get_or, take, drop, leb, ltb}

-- the length of the record that begins some words, by its kind and counts; 0 of no known kind
unfoldable pub record_length : List ℕ → ℕ
record_length ws =
    get_or
    -- kind 0, a head: "qubits, bits, then register and offset for each qubit, then for each bit"
    ((3 + 2 * (get_or ws 1 0 + get_or ws 2 0))
    -- kind 1, a U: "three angles (four words each: a's n, d, b's n, d, signed in two's complement), qubit"
    ∷ 14
    -- kind 2, a CX: control, target
    ∷ 3
    -- kind 3, an opaque gate: "gate, p, q, p angles, q qubits"
    ∷ (4 + 4 * get_or ws 2 0 + get_or ws 3 0)
    -- kind 4, a barrier: "count, qubits"
    ∷ (2 + get_or ws 1 0)
    -- kind 5, a measure: "qubit, bit"
    ∷ 3
    -- kind 6, a reset: qubit
    ∷ 2
    -- kind 7, a conditional start: "first bit, size, value"
    ∷ 4
    -- kind 8, its end
    ∷ 1 ∷ [])
    (get_or ws 0 0) 0

-- the words of the next record, the end, or 17
pub data Next : Type 0 where
  next : (words : List ℕ) → Next
  end : Next
  wrong : Next

-- "The next record comes back as a part of the caller's own output; 17, exactly if the words there begin no whole record of a known kind with its length; end if none are left; a position past the end is 17."
unfoldable pub next_at : List ℕ → ℕ → Next
next_at ws at =
    let n = record_length (drop at ws) in
    cond (ltb at (length ws))
    (cond (leb 1 n && leb n (length ws - at)) (next (take n (drop at ws))) wrong)
    (cond (ltb (length ws) at) wrong end)

unfoldable pub found : Next → ℕ → (ℕ → List (List ℕ)) → List (List ℕ)
found (next r) at more = r ∷ more (at + length r)
found end at more = []
found wrong at more = []

-- the records that are read from a position on, at most n
unfoldable pub records_from : ℕ → List ℕ → ℕ → List (List ℕ)
records_from zero ws at = []
records_from (suc n) ws at = found (next_at ws at) at (records_from n ws)

-- all records of some words: there are no more than words
unfoldable pub records_in : List ℕ → List (List ℕ)
records_in ws = records_from (length ws) ws 0
