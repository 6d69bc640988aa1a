-- What is read back of an input is the lines of its records and the last line.
use Prim.Native.Nat.{ℕ, ◌*◌, ◌/◌, ◌≤◌, min}
use native.Mathlib.Omega.{arith}
use mathlib.Core.Path.{◌≡◌, refl, sym, ap, ap₂, ◌∙◌}
use mathlib.Core.Bool.{Bool, true, false, ◌&&◌}
use mathlib.Core.List.{List, [], ◌∷◌}
use borrow.Author.Tests.{eq-eqb, ne_eqb, le-ltb}
use lib.Dec.{ltb}
use lib.ListN.{length}
use Rattle.model.specs.RecordReader.{records_in}
use Rattle.model.specs.Listing.{ascii, decimal, line, words_of}
use Rattle.text.specs.declared.Text.{Text}
use Rattle.text.specs.Put.{RoomFor, Put}
use Rattle.text.proofs.PutLaws.{put_same, put_then, put_length}
use Rattle.model.proofs.WordsOfLaws.{length_words}
use Rattle.record_text.specs.declared.Front.{Front}
use Rattle.record_text.specs.ReadBack.{last_line, records_text, read_back}
use Rattle.record_text.specs.ReadFront.{ReadFront}

-- ---- which line is the last

pub few_bytes : (n r : ℕ) → n ≤ 524288 → false ≡ (ltb 524288 n && ltb 0 r)
few_bytes n r h = rw (le-ltb 524288 n h) refl

module _ (n p r : ℕ) {b : Bool} (e : b ≡ (ltb 524288 n && ltb 0 r)) where
  pub last_more : b ≡ true → line (ascii "more" ∷ decimal p ∷ decimal r ∷ []) ≡ last_line n p r
  unfolding last_line
  last_more t = rw (sym e ∙ t) refl

  pub last_end : b ≡ false → 8 * p ≡ n → line (ascii "end" ∷ decimal r ∷ []) ≡ last_line n p r
  unfolding last_line
  last_end f h = rw (sym e ∙ f, eq-eqb (8 * p) n h) refl

  pub last_refused : b ≡ false → ¬ (8 * p ≡ n) → line (ascii "refused" ∷ decimal 17 ∷ decimal p ∷ []) ≡ last_line n p r
  unfolding last_line
  last_refused f h = rw (sym e ∙ f, ne_eqb (8 * p) n h) refl

-- ---- the whole text

module _ (input : List ℕ) {ws : List ℕ} (r : ws ≡ words_of (min (length input / 8) 65536) input) where
  words_few : length ws ≤ 65536
  words_few = omega (arith, ap length r, length_words (min (length input / 8) 65536) input)

  pub lines_room : (t : Text) → RoomFor 1441792 t → RoomFor (21 * length ws) t
  lines_room t h = omega (arith, words_few)

  module _ {t t' : Text} {front : Front} (f : ReadFront ws t front t') where
    pub last_room : RoomFor 1441792 t → RoomFor 64 t'
    last_room h = omega (arith, f.few, words_few, put_length f.put)

    pub back_put : {t'' : Text} → Put (last_line (length input) front.words front.records) t' t'' → Put (read_back input) t t''
    unfolding read_back records_text
    back_put q =
        put_same (ap (λ (l : List ℕ). records_text (length input) (records_in l)) r)
        (put_then f.put (put_same (ap₂ (last_line (length input)) f.place f.count) q))
