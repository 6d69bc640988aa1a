-- The line of a record, from the record's words.
use Rattle.std.specs.Prelude.{ℕ, suc, ◌-◌, ◌/◌, ◌%◌, ◌^◌, Bool, false, ◌&&◌, cond, List, [], ◌∷◌, ◌++◌, eqb, ltb, leb, get_or, drop}
use Rattle.model.specs.Listing.{decimal}

-- a numerator's word, "signed in two's complement"
unfoldable pub signed_text : ℕ → List ℕ
signed_text n = cond (ltb n (2 ^ 63)) (decimal n) (45 ∷ decimal (2 ^ 64 - n))

-- a word as text, signed or not
abbrev pub word_text : Bool → ℕ → List ℕ
word_text s n = cond s (signed_text n) (decimal n)

-- whether word i of a record is a numerator: in U the odd words of three angles, in kind 3 the even ones of its angles
unfoldable pub numerator : List ℕ → ℕ → Bool
numerator ws i =
    cond (eqb (get_or ws 0 0) 1) (ltb i 13 && eqb (i % 2) 1)
    (cond (eqb (get_or ws 0 0) 3) (leb 4 i && (ltb ((i - 4) / 4) (get_or ws 2 0) && eqb (i % 2) 0)) false)

-- the words from word i on, each behind a space
unfoldable pub words_text : List ℕ → ℕ → List ℕ → List ℕ
words_text ws i [] = []
words_text ws i (w ∷ l) = (32 ∷ word_text (numerator ws i) w) ++ words_text ws (suc i) l

-- the line of the record that some words are
unfoldable pub record_line : List ℕ → List ℕ
record_line ws = decimal (get_or ws 0 0) ++ (words_text ws 1 (drop 1 ws) ++ 10 ∷ [])
