-- The lines of records, record after record.
use Prim.Native.Nat.{ℕ, ◌+◌, ◌*◌, ◌≤◌, ◌<◌}
use native.Mathlib.Omega.{arith}
use mathlib.Core.Path.{◌≡◌, refl, sym, ap, ◌∙◌}
use mathlib.Core.List.{List, [], ◌∷◌, ◌++◌, map, flat_map, append-nil, append_assoc, map-append}
use lib.ListN.{length, length-append}
use Rattle.model.specs.Records.{Record, encode}
use Rattle.model.specs.RecordReader.{next_at, records_in}
use Rattle.model.proofs.ReadBack.{next_record, reads_back}
use Rattle.record_reader.specs.Answer.{next_words_of}
use Rattle.model.proofs.ListLaws.{flat_append}
use Rattle.text.specs.RecordLine.{record_line}
use Rattle.listing_text.specs.EndText.{WordsOfRecords}
use Rattle.text.specs.declared.Text.{Text}
use Rattle.text.specs.Put.{RoomFor, Put, PutMost}
use Rattle.text.proofs.PutLaws.{put_none, put_same, put_then, put_length}

abbrev lines_of : List Record → List ℕ
lines_of rs = flat_map record_line (map encode rs)

-- of some words the records before i are put, and the rest are still to be put
pub record Reading (ws : List ℕ) (t : Text) (i : ℕ) (t' : Text) : Type 0 where
  pub before : List Record
  pub rest : List Record
  pub split : ws ≡ flat_map encode before ++ flat_map encode rest
  pub place : i ≡ length (flat_map encode before)
  pub done : Put (lines_of before) t t'
  pub few : t'.end ≤ t.end + 21 * i

pub reading_start : {ws : List ℕ} {t : Text} → WordsOfRecords ws → RoomFor (21 * length ws) t → Reading ws t 0 t
unfolding flat_map
reading_start h k =
    record { before = []; rest = h.records; split = h.words; place = refl; done = put_none (omega arith); few = omega arith }

-- the record that stands at i
record Here (ws : List ℕ) (i : ℕ) (rest : List Record) : Type 0 where
  one : Record
  more : List Record
  is : rest ≡ one ∷ more
  found : next_words_of (next_at ws i) ≡ encode one

module _ {ws : List ℕ} {t t' : Text} {i : ℕ} (g : Reading ws t i t') where
  here : i < length ws → Here ws i g.rest
  unfolding flat_map
  here h = go g.rest g.split
    where
      go : (rest : List Record) → ws ≡ flat_map encode g.before ++ flat_map encode rest → Here ws i rest
      go [] e = absurd (omega (arith, ap length e, length-append (flat_map encode g.before) [], g.place))
      go (r ∷ rs) e = record { one = r; more = rs; is = refl; found = rw (e, g.place) (ap next_words_of (next_record (flat_map encode g.before) r (flat_map encode rs))) }

  module _ {v : List ℕ} (h : i < length ws) (e : v ≡ next_words_of (next_at ws i)) where
    whole : ws ≡ flat_map encode g.before ++ (v ++ flat_map encode (here h).more)
    unfolding flat_map
    whole =
        g.split ∙ ap (λ (rs : List Record). flat_map encode g.before ++ flat_map encode rs) (here h).is
        ∙ ap (λ (x : List ℕ). flat_map encode g.before ++ (x ++ flat_map encode (here h).more)) (sym (e ∙ (here h).found))

    pub next_some : 1 ≤ length v
    unfolding encode
    next_some = omega (arith, ap length (e ∙ (here h).found))

    pub next_inside : i + length v ≤ length ws
    next_inside =
        omega (
          arith,
          g.place,
          ap length whole,
          length-append (flat_map encode g.before) (v ++ flat_map encode (here h).more),
          length-append v (flat_map encode (here h).more),
        )

    pub next_room : RoomFor (21 * length ws) t → RoomFor (21 * length v) t'
    next_room k = omega (arith, next_inside, g.few, put_length g.done)

    pub reading_more : {t'' : Text} → PutMost (record_line v) (21 * length v) t' t'' → Reading ws t (i + length v) t''
    unfolding flat_map
    reading_more p =
        let one = (here h).one in
        let f : v ≡ encode one = e ∙ (here h).found in
        let words : flat_map encode (g.before ++ one ∷ []) ≡ flat_map encode g.before ++ v =
        rw (flat_append encode g.before (one ∷ []), append-nil (encode one), f) refl
        in
        let lines : lines_of g.before ++ record_line v ≡ lines_of (g.before ++ one ∷ []) =
        rw (map-append encode g.before (one ∷ []), flat_append record_line (map encode g.before) (encode one ∷ []), append-nil (record_line (encode one)), f) refl
        in
        record {
          before = g.before ++ one ∷ [];
          rest = (here h).more;
          split = whole ∙ rw (words, append_assoc (flat_map encode g.before) v (flat_map encode (here h).more)) refl;
          place = rw words (omega (arith, g.place, length-append (flat_map encode g.before) v));
          done = put_same lines (put_then g.done p.put);
          few = omega (arith, g.few, p.few);
        }

  -- no record is left
  pub reading_end : length ws ≤ i → PutMost (flat_map record_line (records_in ws)) (21 * length ws) t t'
  reading_end h = record { put = put_same (ap (flat_map record_line) (sym all)) g.done; few = omega (arith, g.few, inside) }
    where
      inside : i ≤ length ws
      inside = omega (arith, g.place, ap length g.split, length-append (flat_map encode g.before) (flat_map encode g.rest))

      none : (rs : List ℕ) → length rs ≤ 0 → rs ≡ []
      none [] k = refl
      none (x ∷ rs) k = absurd (omega arith)

      left : flat_map encode g.rest ≡ []
      left = none (flat_map encode g.rest) (omega (arith, g.place, ap length g.split, length-append (flat_map encode g.before) (flat_map encode g.rest)))

      all : records_in ws ≡ map encode g.before
      all = ap records_in (g.split ∙ rw (left, append-nil (flat_map encode g.before)) refl) ∙ reads_back g.before
