-- What the answering program writes of the check and of the tally, from the bytes of standard input to those of standard output.
use Rattle.std.specs.Prelude.{ℕ, ◌-◌, ◌/◌, ◌%◌, ◌&&◌, cond, List, length, get_or, take, drop, eqb, leb}
use Rattle.model.specs.Refusals as refusal
use Rattle.model.specs.Check.{bad, check}
use Rattle.model.specs.Tally.{refused, tally}
use Rattle.model.specs.Listing.{little_endian, words_of}
use Rattle.text.specs.NumberLine.{numbers_line}
use Rattle.unit_words.specs.AnswerWords.{check_words, tally_words}

-- the line of an image in whole words: the number and the place of what the check finds, 0 0 if it is accepted
abbrev pub check_line : List ℕ → List ℕ
check_line bytes = numbers_line (check_words (check (words_of (length bytes / 8) bytes)))

-- the line of a depth and an image in whole words: the tally's number and place, then the nine figures
abbrev pub tally_line : List ℕ → List ℕ
tally_line bytes = numbers_line (tally_words (tally (words_of (length bytes / 8 - 1) (drop 8 bytes)) (little_endian (take 8 bytes))))

-- Of an image: check's number and place, 0 0 if it is accepted. Input that ends within a word: 1 0.
unfoldable pub check_answer : List ℕ → List ℕ
check_answer bytes =
    numbers_line (check_words (cond (eqb (length bytes % 8) 0) (check (words_of (length bytes / 8) bytes)) (bad refusal.contents 0)))

-- Of a depth and an image: the tally's number and place, then the nine figures. Input that ends within a word, or has no depth: 1 0 and nine zeros.
unfoldable pub tally_answer : List ℕ → List ℕ
tally_answer bytes =
    let input = words_of (length bytes / 8) bytes in
    numbers_line (tally_words (cond (eqb (length bytes % 8) 0 && leb 8 (length bytes)) (tally (drop 1 input) (get_or input 0 0)) (refused refusal.contents 0)))
