-- The answers of check and tally are the lines of what was read of the image, and of a malformed input 1 and zeros.
use Prim.Native.Nat.{ℕ, ◌-◌, ◌/◌, ◌%◌, ◌≤◌, ◌<◌, min}
use native.Mathlib.Omega.{arith}
use mathlib.Core.Path.{◌≡◌, refl, ap, ◌∙◌}
use mathlib.Core.List.{List, [], ◌∷◌}
use borrow.Author.Tests.{eq-eqb, ne_eqb}
use lib.ListN.{length, take, drop}
use Rattle.std.specs.Prelude.{◌&&◌, eqb, leb, true, false}
use Rattle.model.specs.Check.{bad, check}
use Rattle.model.specs.Tally.{refused, if_accepted, tally}
use Rattle.model.specs.Listing.{little_endian, words_of}
use Rattle.unit_words.specs.AnswerWords.{check_words, tally_words}
use Rattle.text.specs.declared.Text.{Text}
use Rattle.text.specs.Put.{Put}
use Rattle.text.proofs.PutLaws.{put_same}
use Rattle.model.proofs.WordsOfLaws.{too_long, at_most_same, parted}
use Rattle.text.specs.NumberLine.{numbers_line}
use Rattle.answer_text.specs.Answers.{check_line, tally_line, check_answer, tally_answer}

-- ---- the check

pub check_put : (input : List ℕ) {t t' : Text} {image answer : List ℕ} → image ≡ words_of (min (length input / 8) 8193) input
    → answer ≡ check_words (check image) → Put (numbers_line answer) t t' → Put (check_line input) t t'
check_put input r a p =
    let n = length input / 8 in
    let same : check (words_of (min n 8193) input) ≡ check (words_of n input) = at_most_same check (bad 1 0) too_long n (min n 8193) input refl in
    put_same (ap numbers_line (a ∙ ap (λ (l : List ℕ). check_words (check l)) r ∙ ap check_words same)) p

pub check_within_word : (bytes : List ℕ) → ¬ (length bytes % 8 ≡ 0) → numbers_line (1 ∷ 0 ∷ []) ≡ check_answer bytes
unfolding check_answer
check_within_word bytes h = rw (ne_eqb (length bytes % 8) 0 h) refl

pub check_whole : (bytes : List ℕ) → length bytes % 8 ≡ 0 → check_line bytes ≡ check_answer bytes
unfolding check_answer
check_whole bytes h = rw (eq-eqb (length bytes % 8) 0 h) refl

-- ---- the tally

pub long_tally : (depth : ℕ) (image : List ℕ) → 8192 < length image → tally image depth ≡ refused 1 0
unfolding tally if_accepted
long_tally depth image h = rw (too_long image h) refl

abbrev tallied_image : List ℕ → List ℕ
tallied_image input = words_of (length input / 8 - 1) (drop 8 input)

pub tally_put : (input : List ℕ) {depth : ℕ} {t t' : Text} {image answer : List ℕ} → image ≡ words_of (min (length input / 8 - 1) 8193) (drop 8 input)
    → depth ≡ little_endian (take 8 input) → answer ≡ tally_words (tally image depth) → Put (numbers_line answer) t t' → Put (tally_line input) t t'
tally_put input {depth} r d a p =
    let n = length input / 8 - 1 in
    let same : tally (words_of (min n 8193) (drop 8 input)) depth ≡ tally (tallied_image input) depth =
    at_most_same (λ (l : List ℕ). tally l depth) (refused 1 0) (long_tally depth) n (min n 8193) (drop 8 input) refl
    in
    put_same (ap numbers_line (a ∙ ap (λ (l : List ℕ). tally_words (tally l depth)) r ∙ ap tally_words (same ∙ ap (tally (tallied_image input)) d))) p

pub tally_malformed : (bytes : List ℕ) → (eqb (length bytes % 8) 0 && leb 8 (length bytes)) ≡ false → numbers_line (tally_words (refused 1 0)) ≡ tally_answer bytes
unfolding tally_answer
tally_malformed bytes h = rw h refl

pub tally_whole : (bytes : List ℕ) → (eqb (length bytes % 8) 0 && leb 8 (length bytes)) ≡ true → 8 ≤ length bytes → tally_line bytes ≡ tally_answer bytes
unfolding tally_answer
tally_whole bytes h k = rw h (parted (λ (l : List ℕ) (n : ℕ). numbers_line (tally_words (tally l n))) bytes (omega arith))
