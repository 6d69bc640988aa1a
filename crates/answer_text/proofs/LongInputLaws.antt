-- Of an input that is longer than a program's room, what the program leaves out changes no answer.
use Prim.Native.Nat.{ℕ, ◌/◌, ◌%◌, ◌≤◌}
use native.Mathlib.Omega.{arith}
use mathlib.Core.Path.{◌≡◌, refl, sym, ◌∙◌}
use mathlib.Core.Bool.{Bool, true, false, ◌&&◌, cond}
use mathlib.Core.List.{List}
use borrow.Author.Tests.{le-leb}
use lib.Dec.{eqb, leb}
use lib.ListN.{length, get_or, take, drop, length-drop}
use lib.Seq.{length-take-le}
use Rattle.model.specs.Check.{bad, check}
use Rattle.model.specs.Tally.{refused, tally}
use Rattle.model.specs.Listing.{words_of}
use Rattle.unit_words.specs.AnswerWords.{check_words, tally_words}
use Rattle.model.proofs.WordsOfLaws.{length_words, too_long}
use Rattle.text.specs.NumberLine.{numbers_line}
use Rattle.answer_text.specs.Answers.{check_answer, tally_answer}
use Rattle.answer_text.proofs.AnswersLaws.{long_tally}

-- ---- an image that is too long, whole words or not

long_check_answer : (bytes : List ℕ) → 65544 ≤ length bytes → check_answer bytes ≡ numbers_line (check_words (bad 1 0))
unfolding check_answer
long_check_answer bytes h = go (eqb (length bytes % 8) 0)
  where
    go : (b : Bool) → numbers_line (check_words (cond b (check (words_of (length bytes / 8) bytes)) (bad 1 0))) ≡ numbers_line (check_words (bad 1 0))
    go true = rw (too_long (words_of (length bytes / 8) bytes) (omega (arith, length_words (length bytes / 8) bytes))) refl
    go false = refl

pub check_of_front : (bytes : List ℕ) → 65552 ≤ length bytes → check_answer (take 65552 bytes) ≡ check_answer bytes
check_of_front bytes h = long_check_answer (take 65552 bytes) (omega (arith, length-take-le 65552 bytes h)) ∙ sym (long_check_answer bytes (omega arith))

long_tally_answer : (bytes : List ℕ) → 65552 ≤ length bytes → tally_answer bytes ≡ numbers_line (tally_words (refused 1 0))
unfolding tally_answer
long_tally_answer bytes h = go (eqb (length bytes % 8) 0)
  where
    input : List ℕ
    input = words_of (length bytes / 8) bytes

    go : (b : Bool) → numbers_line (tally_words (cond (b && leb 8 (length bytes)) (tally (drop 1 input) (get_or input 0 0)) (refused 1 0))) ≡ numbers_line (tally_words (refused 1 0))
    go true =
        rw (
          le-leb 8 (length bytes) (omega arith),
          long_tally (get_or input 0 0) (drop 1 input) (omega (arith, length-drop 1 input, length_words (length bytes / 8) bytes)),
        )
        refl
    go false = refl

pub tally_of_front : (bytes : List ℕ) → 65552 ≤ length bytes → tally_answer (take 65552 bytes) ≡ tally_answer bytes
tally_of_front bytes h = long_tally_answer (take 65552 bytes) (omega (arith, length-take-le 65552 bytes h)) ∙ sym (long_tally_answer bytes h)
