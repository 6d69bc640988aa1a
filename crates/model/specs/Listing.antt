-- Document 01, "The listing program": from the bytes of standard input to those of standard output.
use Rattle.std.specs.Prelude.{ℕ, zero, suc, ◌+◌, ◌*◌, ◌/◌, ◌%◌, ◌&&◌, cond, length, get_or, take, drop, eqb, ltb, leb}
use Prim.Native.Char.{code}
use Prim.Native.String.{String}
use Prim.Native.String as text
use mathlib.Core.List.{List, [], ◌∷◌, ◌++◌, map, flat_map}
use Rattle.rational.specs.declared.Rational64.{Rational64}
use Rattle.value.specs.declared.Value.{Value}
use Rattle.model.specs.Refusals as refusal
use Rattle.model.specs.Records.{Record, kind, fields}
use Rattle.model.specs.Run.{Numbers, numbers, Answer, done, refused, full, flawed, short_trace, answer_numbers, Played, runs}

-- ---- text

-- the bytes of an ASCII text
unfoldable pub ascii : String → List ℕ
ascii text.[] = []
ascii (text.◌∷◌ c s) = code c ∷ ascii s

-- a number's decimal digits, at most as many as the first argument says
unfoldable pub digits : ℕ → ℕ → List ℕ
digits zero n = []
digits (suc k) n = let before = digits k (n / 10) in cond (ltb n 10) ((48 + n) ∷ []) (before ++ (48 + n % 10) ∷ [])

unfoldable pub decimal : ℕ → List ℕ
decimal n = digits (suc n) n

-- a line: words with a space between them, and a line feed
unfoldable pub line : List (List ℕ) → List ℕ
line [] = 10 ∷ []
line (w ∷ []) = w ++ 10 ∷ []
line (w ∷ v ∷ l) = w ++ 32 ∷ line (v ∷ l)

-- ---- records: "Each record is a line of its words in decimal, the angles signed."

unfoldable pub fraction_text : Rational64 → List (List ℕ)
fraction_text x = cond x.negative (45 ∷ decimal x.numer) (decimal x.numer) ∷ decimal x.denom ∷ []

unfoldable pub angle_text : Value → List (List ℕ)
angle_text x = fraction_text x.a ++ fraction_text x.b

unfoldable pub fields_text : Record → List (List ℕ)
fields_text (Record.U theta phi lambda q) = angle_text theta ++ angle_text phi ++ angle_text lambda ++ decimal q ∷ []
fields_text (Record.Opaque g xs qs) = decimal g ∷ decimal (length xs) ∷ decimal (length qs) ∷ (flat_map angle_text xs ++ map decimal qs)
fields_text (Record.Head qs bs) = map decimal (fields (Record.Head qs bs))
fields_text (Record.CX a b) = map decimal (fields (Record.CX a b))
fields_text (Record.Barrier qs) = map decimal (fields (Record.Barrier qs))
fields_text (Record.Measure q b) = map decimal (fields (Record.Measure q b))
fields_text (Record.Reset q) = map decimal (fields (Record.Reset q))
fields_text (Record.ConditionalStart b n v) = map decimal (fields (Record.ConditionalStart b n v))
fields_text Record.ConditionalEnd = map decimal (fields Record.ConditionalEnd)

unfoldable pub record_text : Record → List ℕ
record_text r = line (decimal (kind r) ∷ fields_text r)

-- ---- the end

-- "a `from` line for each trace pair"
unfoldable pub from_text : List ℕ → List ℕ
from_text [] = []
from_text (a ∷ []) = []
from_text (a ∷ b ∷ t) = line (ascii "from" ∷ decimal a ∷ decimal b ∷ []) ++ from_text t

-- "then `refused`, number, two places (10: place, f32 bits; unused 0)"
unfoldable pub refused_text : Numbers → List ℕ
refused_text n = line (ascii "refused" ∷ decimal n.number ∷ decimal n.place ∷ decimal n.second ∷ [])

-- "A finished run closes with `done` and the number of records, the head among them."
unfoldable pub closing : Answer → ℕ → List ℕ
closing done n = line (ascii "done" ∷ decimal n ∷ [])
closing (refused t r) n = from_text t ++ refused_text (answer_numbers (refused t r))
closing (full t) n = from_text t ++ refused_text (answer_numbers (full t))
closing (flawed k p) n = refused_text (answer_numbers (flawed k p))
closing short_trace n = refused_text (answer_numbers short_trace)

unfoldable pub run_text : Played → List ℕ
run_text p = flat_map record_text p.written ++ closing p.answer (length p.written)

-- ---- the input: "It reads little-endian words from standard input, depth first, then the image"

unfoldable pub little_endian : List ℕ → ℕ
little_endian [] = 0
little_endian (b ∷ bs) = b + 256 * little_endian bs

-- n words of eight bytes each
unfoldable pub words_of : ℕ → List ℕ → List ℕ
words_of zero bytes = []
words_of (suc n) bytes = little_endian (take 8 bytes) ∷ words_of n (drop 8 bytes)

-- "and lends 8,192 output words", with 256 words for the trace. "Input that ends within a word, or has no depth, gives `refused 1 0 0`."
unfoldable pub listing : List ℕ → List ℕ
listing bytes =
    let input = words_of (length bytes / 8) bytes in
    cond (eqb (length bytes % 8) 0 && leb 8 (length bytes))
    (run_text (runs (drop 1 input) (get_or input 0 0) 8192 256))
    (refused_text (numbers refusal.contents 0 0))
