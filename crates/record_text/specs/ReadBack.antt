-- What is written of records that are read back, from the bytes of standard input to those of standard output.
use Rattle.std.specs.Prelude.{ℕ, ◌*◌, ◌/◌, min, ◌&&◌, cond, length, eqb, ltb}
use mathlib.Core.List.{List, [], ◌∷◌, ◌++◌, map, flat_map}
use Rattle.model.specs.Lists.{sum}
use Rattle.model.specs.RecordReader.{records_in}
use Rattle.model.specs.Listing.{ascii, decimal, line, words_of}
use Rattle.text.specs.RecordLine.{record_line}
use Rattle.model.specs.Refusals as refusal

-- The last line for an input of n bytes, of which r records were read, up to word p.
-- `more`: only the first 65,536 words of a longer input were looked at, and the next record starts at p.
-- `end`: the records are the whole input.
-- Otherwise the number 17 of no record, at p, where no whole record stands. This is also the line of a longer input that begins with no record.
unfoldable pub last_line : ℕ → ℕ → ℕ → List ℕ
last_line n p r =
    cond (ltb 524288 n && ltb 0 r) (line (ascii "more" ∷ decimal p ∷ decimal r ∷ []))
    (cond (eqb (8 * p) n) (line (ascii "end" ∷ decimal r ∷ [])) (line (ascii "refused" ∷ decimal refusal.no_record ∷ decimal p ∷ [])))

-- Records, each as its line in the listing, and the last line: they end where their words do.
unfoldable pub records_text : ℕ → List (List ℕ) → List ℕ
records_text n records = flat_map record_line records ++ last_line n (sum (map length records)) (length records)

-- Of an input: the records of its whole words from the first on, of 65,536 words at most.
unfoldable pub read_back : List ℕ → List ℕ
read_back bytes = records_text (length bytes) (records_in (words_of (min (length bytes / 8) 65536) bytes))
