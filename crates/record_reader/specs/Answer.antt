-- What the record reader's answers say of the words at a position.
use Rattle.std.specs.Prelude.{ℕ, cond, List, [], leb, length, Option, Some, None, Result, Ok, Err}
use Rattle.model.specs.Refusals as refusal
use Rattle.model.specs.RecordReader.{Next, next, end, wrong, record_length}
use Rattle.record_reader.specs.declared.NoRecord.{NoRecord}

-- the answer of the record reader: the length of a record, the end of the words, or no record
abbrev pub NextRecord : Type 0
NextRecord = Result (Option ℕ) NoRecord

-- a record's length, if it is within the words available
abbrev pub length_within : ℕ → ℕ → Option ℕ
length_within available n = cond (leb n available) (Some n) None

-- the length of the record that some words begin with, if it is whole and of a known kind: each known kind has a word at least
abbrev pub whole_length : List ℕ → Option ℕ
whole_length ws = cond (leb 1 (record_length ws)) (length_within (length ws) (record_length ws)) None

-- a record with its length, the end, or no record
abbrev pub next_record_of : Next → NextRecord
next_record_of (next ws) = Ok (Some (length ws))
next_record_of end = Ok None
next_record_of wrong = Err (record {})

-- document 01's number of an answer: 0, and 17 of no record
abbrev pub next_number : NextRecord → ℕ
next_number (Ok found) = 0
next_number (Err e) = refusal.no_record

-- how many words the record has that an answer stands for, 0 of none: a record has a word at least
abbrev pub next_length : NextRecord → ℕ
next_length (Ok (Some n)) = n
next_length (Ok None) = 0
next_length (Err e) = 0

-- the words of the record, none where there is no record
abbrev pub next_words_of : Next → List ℕ
next_words_of (next ws) = ws
next_words_of end = []
next_words_of wrong = []
