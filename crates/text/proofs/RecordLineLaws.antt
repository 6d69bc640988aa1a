-- The line of a record is put word after word, and has at most 21 bytes a word.
use Prim.Native.Nat.{ℕ, suc, ◌+◌, ◌-◌, ◌*◌, ◌/◌, ◌%◌, ◌^◌, ◌≤◌, ◌<◌}
use native.Mathlib.Numerals.{add-one}
use native.Mathlib.Omega.{arith}
use mathlib.Core.Path.{◌≡◌, refl}
use mathlib.Core.Bool.{Bool, false}
use mathlib.Core.List.{List, [], ◌∷◌, ◌++◌, append_assoc}
use borrow.Author.Tests.{lt-ltb, le-ltb, le-leb}
use lib.Dec.{eqb}
use lib.ListN.{length, get_or, drop, length-append, drop_of_length-le}
use lib.Seq.{drop-cons}
use Rattle.model.specs.Listing.{decimal}
use Rattle.text.specs.RecordLine.{word_text, numerator, words_text, record_line}
use Rattle.text.specs.declared.Text.{Text}
use Rattle.text.specs.Put.{RoomFor, Room, Put, PutMost}
use Rattle.model.proofs.DecimalLaws.{decimal_short}
use Rattle.text.proofs.SignedTextLaws.{word_short}

-- ---- which words are numerators

module _ (ws : List ℕ) (i : ℕ) where
  pub numerator_opaque : get_or ws 0 0 ≡ 3 → 4 ≤ i → (i - 4) / 4 < get_or ws 2 0 → eqb (i % 2) 0 ≡ numerator ws i
  unfolding numerator
  numerator_opaque k h l = rw (k, le-leb 4 i h, lt-ltb ((i - 4) / 4) (get_or ws 2 0) l) refl

  pub numerator_behind : get_or ws 0 0 ≡ 3 → 4 ≤ i → get_or ws 2 0 ≤ (i - 4) / 4 → false ≡ numerator ws i
  unfolding numerator
  numerator_behind k h l = rw (k, le-leb 4 i h, le-ltb ((i - 4) / 4) (get_or ws 2 0) l) refl

-- ---- the line, word after word

-- what is still to be put from word i on
unfoldable pub line_from : List ℕ → ℕ → List ℕ
line_from ws i = words_text ws i (drop i ws) ++ 10 ∷ []

pub line_start : (ws : List ℕ) → record_line ws ≡ decimal (get_or ws 0 0) ++ line_from ws 1
unfolding record_line line_from
line_start ws = refl

pub line_next : (ws : List ℕ) (i : ℕ) {b : Bool} → i < length ws → b ≡ numerator ws i → line_from ws i ≡ (32 ∷ word_text b (get_or ws i 0)) ++ line_from ws (i + 1)
unfolding line_from words_text
line_next ws i h e = rw (drop-cons ws i 0 h, add-one i, append_assoc, e) refl

pub line_end : (ws : List ℕ) (i : ℕ) → length ws ≤ i → line_from ws i ≡ 10 ∷ []
unfolding line_from words_text
line_end ws i h = rw (drop_of_length-le ws h) refl

-- ---- at most 21 bytes a word

words_short : (ws : List ℕ) (i : ℕ) (l : List ℕ) → ((j : ℕ) → get_or l j 0 < 2 ^ 64) → length (words_text ws i l) ≤ 21 * length l
unfolding words_text
words_short ws i [] h = omega arith
words_short ws i (w ∷ l) h =
    let e = length-append (32 ∷ word_text (numerator ws i) w) (words_text ws (suc i) l) in
    omega (arith, word_short (numerator ws i) w (h 0), words_short ws (suc i) l (λ j. h (suc j)))

pub line_short : (ws : List ℕ) → 1 ≤ length ws → ((j : ℕ) → get_or ws j 0 < 2 ^ 64) → length (record_line ws) ≤ 21 * length ws
unfolding record_line
line_short [] h k = absurd (omega arith)
line_short (w ∷ l) h k =
    let ws : List ℕ = w ∷ l in
    omega (
      arith,
      length-append (decimal w) (words_text ws 1 l ++ 10 ∷ []),
      length-append (words_text ws 1 l) (10 ∷ []),
      decimal_short w (k 0),
      words_short ws 1 l (λ j. k (suc j)),
    )

module _ (ws : List ℕ) {t : Text} (some : 1 ≤ length ws) (fits : (j : ℕ) → get_or ws j 0 < 2 ^ 64) where
  pub line_room : RoomFor (21 * length ws) t → Room (record_line ws) t
  line_room r = record { room = omega (arith, line_short ws some fits) }

  pub line_most : {t' : Text} → Put (record_line ws) t t' → PutMost (record_line ws) (21 * length ws) t t'
  line_most p = record { put = p; few = omega (arith, p.ends, line_short ws some fits) }
