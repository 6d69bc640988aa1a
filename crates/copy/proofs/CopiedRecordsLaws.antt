-- Records that are copied in turn: how many are, that the next one stands whole, and that the words say which copy it is.
use Prim.Native.Nat.{ℕ, ◌+◌, ◌-◌, ◌≤◌, ◌<◌}
use native.Mathlib.Nat.{add-zero}
use native.Mathlib.Omega.{arith}
use mathlib.Core.Path.{◌≡◌, refl, sym, ap, ap₂, ◌∙◌}
use mathlib.Core.List.{List, [], ◌∷◌, ◌++◌, map, flat_map, append_assoc, append-nil}
use lib.ListN.{length, get_or, take, drop, length-drop, length-append, length-map}
use lib.Seq.{sets, length-sets, length-take-le, get_or-drop, get_or-take, take-take, drop-drop, take_at, drop_at}
use Rattle.model.specs.Lists.{rising}
use Rattle.model.specs.Records.{Record, kind, fields, encode, angle_words, fraction_words}
use Rattle.model.specs.All.{All, nil, cons}
use Rattle.model.proofs.All.{All-append}
use Rattle.model.proofs.ListLaws.{drop_take, flat_append}
use Rattle.model.proofs.Lengths.{length_words}
use Rattle.model.proofs.SetsLaws.{put_more}
use Rattle.copy.specs.Renaming.{renamed_record, copied_words}
use Rattle.copy.specs.BodyRecord.{BodyRecord, body-U, body-CX, body_opaque, body_barrier}
use Rattle.copy.specs.CopiedRecord.{LaterPlace, WordsPut, words_before_qubits, qubit_count, barrier_count, barrier_qubits, body_record_length, renamed_words}
use Rattle.copy.specs.CopiedRecords.{RecordsStand, RecordsCopied}
use Rattle.copy.proofs.BodyKeptLaws.{part_stays}
use Rattle.copy.proofs.Renamed.{shorter}
use Rattle.copy.proofs.CopiedWordsLaws.{map_snoc}
use Rattle.copy.proofs.CopiedRecordLaws.{fixed-U, fixed-CX, fixed_opaque, count-U, count-CX, count_opaque, length_barrier, words_barrier, length_gate, words_gate}

-- ---- one record

drop_take_add : (f c : ℕ) (l : List ℕ) → drop f (take (f + c) l) ≡ take c (drop f l)
drop_take_add f c l = let e : f + c - f ≡ c = omega arith in drop_take f (f + c) l (omega arith) ∙ ap (λ k. take k (drop f l)) e

-- the words from a place on say how long a record is, and what its copy is
record Read (r : ℕ → ℕ) (out : List ℕ) (from : ℕ) (x : Record) : Type 0 where
  pub whole : body_record_length out from ≡ length (encode x)
  pub copied : renamed_words r out from ≡ encode (renamed_record r x)

module _ (r : ℕ → ℕ) (out : List ℕ) (from : ℕ) where
  module _ (x : Record) (there : take (length (encode x)) (drop from out) ≡ encode x) where
    word_there : (i : ℕ) → i < length (encode x) → get_or out (from + i) 0 ≡ get_or (encode x) i 0
    word_there i h = sym (get_or-drop from out i 0) ∙ sym (get_or-take (length (encode x)) (drop from out) i 0 h) ∙ ap (λ l. get_or l i 0) there

    first_there : 0 < length (encode x) → get_or out from 0 ≡ get_or (encode x) 0 0
    first_there h = ap (λ k. get_or out k 0) (sym (add-zero from)) ∙ word_there 0 h

    -- the words of a record are some words and others after them
    module _ (front back : List ℕ) (parts : encode x ≡ front ++ back) where
      long : length (encode x) ≡ length front + length back
      long = ap length parts ∙ length-append front back

      front_there : take (length front) (drop from out) ≡ front
      front_there =
          sym (take-take (length front) (length (encode x)) (drop from out) (omega (arith, long))) ∙ ap (take (length front)) (there ∙ parts)
          ∙ take_at front back (length front) refl

      back_there : take (length back) (drop (from + length front) out) ≡ back
      back_there =
          ap (take (length back)) (sym (drop-drop (length front) from out)) ∙ sym (drop_take_add (length front) (length back) (drop from out))
          ∙ ap (λ n. drop (length front) (take n (drop from out))) (sym long) ∙ ap (drop (length front)) (there ∙ parts) ∙ drop_at front back (length front) refl

      -- of a gate the others are the qubits
      gate_read : ¬ (get_or out from 0 ≡ 4) → words_before_qubits out from ≡ length front → qubit_count out from ≡ length back → encode (renamed_record r x) ≡ front ++ map r back → Read r out from x
      gate_read k f c e =
          record {
            whole = length_gate out from k ∙ ap₂ ◌+◌ f c ∙ sym long;
            copied =
                words_gate out from k r ∙ ap₂ (λ a b. take a (drop from out) ++ map r (take b (drop (from + a) out))) f c
                ∙ ap₂ (λ a b. a ++ map r b) front_there back_there ∙ sym e;
          }

  body_read : (x : Record) → take (length (encode x)) (drop from out) ≡ encode x → BodyRecord x → Read r out from x
  unfolding encode kind fields angle_words fraction_words renamed_record
  body_read x there (body-U {theta} {phi} {lambda} {q}) =
      let e = first_there x there (omega arith) in
      gate_read x there (take 13 (encode x)) (q ∷ []) refl (λ k. omega arith) (sym (fixed-U out from e)) (sym (count-U out from e)) refl
  body_read x there (body-CX {a} {b}) =
      let e = first_there x there (omega arith) in
      let d : ¬ (get_or out from 0 ≡ 1) = λ k. omega arith in
      gate_read x there (2 ∷ []) (a ∷ b ∷ []) refl (λ k. omega arith) (sym (fixed-CX out from d e)) (sym (count-CX out from d e)) refl
  body_read x there (body_opaque {g} {xs} {qs}) =
      let e = first_there x there (omega arith) in
      let d : ¬ (get_or out from 0 ≡ 1) = λ k. omega arith in
      let d' : ¬ (get_or out from 0 ≡ 2) = λ k. omega arith in
      let p = word_there x there 2 (omega arith) in
      let n = word_there x there 3 (omega arith) in
      gate_read x there (3 ∷ g ∷ length xs ∷ length qs ∷ flat_map angle_words xs) qs refl (λ k. omega arith) (omega (arith, fixed_opaque out from d d', length_words xs))
      (omega (arith, count_opaque out from d d')) (ap (λ m. 3 ∷ g ∷ length xs ∷ m ∷ (flat_map angle_words xs ++ map r qs)) (length-map qs r))
  body_read x there (body_barrier {qs}) =
      let e = first_there x there (omega arith) in
      let n : barrier_count out from ≡ length qs = word_there x there 1 (omega arith) in
      let qubits : barrier_qubits out from ≡ qs = ap (λ k. take k (drop (from + 2) out)) n ∙ back_there x there (4 ∷ length qs ∷ []) qs refl in
      record {
        whole = omega (arith, length_barrier out from e, n);
        copied = words_barrier out from e r ∙ ap (λ l. encode (Record.Barrier (rising (map r l)))) qubits;
      }

-- ---- lists of records

flat_more : {A : Type 0} (g : A → List ℕ) (l : List A) (x : A) → flat_map g (l ++ x ∷ []) ≡ flat_map g l ++ g x
unfolding flat_map
flat_more g l x = flat_append g l (x ∷ []) ∙ ap (λ k. flat_map g l ++ k) (append-nil (g x))

-- some records that stand, up to a place, are copied, and the rest still stands; the copy is never longer than what is copied
pub record CopiedSoFar (r : ℕ → ℕ) (out : List ℕ) (from words to place written : ℕ) (out' : List ℕ) : Type 0 where
  pub before : List Record
  pub rest : List Record
  pub each_before : All BodyRecord before
  pub each_rest : All BodyRecord rest
  pub stands : take words (drop from out) ≡ flat_map encode before ++ flat_map encode rest
  pub read : place ≡ from + length (flat_map encode before)
  pub inside : place ≤ from + words
  pub counted : written ≡ length (copied_words r before)
  pub few : from + written ≤ place
  pub contents : out' ≡ sets out to (copied_words r before)
  pub same : length out' ≡ length out

module _ (r : ℕ → ℕ) where
  copied_more : (l : List Record) (x : Record) → copied_words r (l ++ x ∷ []) ≡ copied_words r l ++ encode (renamed_record r x)
  copied_more l x = ap (flat_map encode) (map_snoc (renamed_record r) l x) ∙ flat_more encode (map (renamed_record r) l) (renamed_record r x)

  module _ (out : List ℕ) (from words to : ℕ) where
    pub copying_start : RecordsStand out from words → CopiedSoFar r out from words to from 0 out
    unfolding flat_map
    copying_start h =
        record {
          before = [];
          rest = h.records;
          each_before = nil;
          each_rest = h.each;
          stands = h.stands;
          read = sym (add-zero from);
          inside = omega arith;
          counted = refl;
          few = omega arith;
          contents = refl;
          same = refl;
        }

    -- the record at hand
    record RecordAtHand (place written : ℕ) (out' : List ℕ) : Type 0 where
      pub it : Record
      pub body : BodyRecord it
      pub there : take (length (encode it)) (drop place out') ≡ encode it
      pub inside : place + length (encode it) ≤ from + words
      pub later : {n : ℕ} {out'' : List ℕ} → WordsPut out' (to + written) (encode (renamed_record r it)) n out'' → CopiedSoFar r out from words to (place + length (encode it)) (written + n) out''

    module _ (place : LaterPlace out from to words) {at written : ℕ} {out' : List ℕ} (c : CopiedSoFar r out from words to at written out') where
      all_words : words ≡ length (flat_map encode c.before) + length (flat_map encode c.rest)
      all_words =
          sym (length-take-le words (drop from out) (simp length-drop (omega (arith, place.after, place.fits)))) ∙ ap length c.stands
          ∙ length-append (flat_map encode c.before) (flat_map encode c.rest)

      step : (x : Record) (rest : List Record) → c.rest ≡ x ∷ rest → All BodyRecord (x ∷ rest) → RecordAtHand at written out'
      unfolding flat_map
      step x rest e (cons p k) =
          let lb = length (flat_map encode c.before) in
          let n = length (encode x) in
          let long : length (flat_map encode c.rest) ≡ n + length (flat_map encode rest) = ap (λ l. length (flat_map encode l)) e ∙ length-append (encode x) (flat_map encode rest) in
          let whole : take words (drop from out) ≡ flat_map encode c.before ++ (encode x ++ flat_map encode rest) = c.stands ∙ ap (λ l. flat_map encode c.before ++ flat_map encode l) e in
          let inside : at + n ≤ from + words = omega (arith, all_words, long, c.read) in
          let part : take n (drop at out) ≡ encode x =
          ap (λ k. take n (drop k out)) c.read ∙ ap (take n) (sym (drop-drop lb from out)) ∙ sym (drop_take_add lb n (drop from out))
          ∙ ap (drop lb) (sym (take-take (lb + n) words (drop from out) (omega (arith, all_words, long)))) ∙ drop_take_add lb n (take words (drop from out))
          ∙ ap (λ l. take n (drop lb l)) whole ∙ ap (take n) (drop_at (flat_map encode c.before) (encode x ++ flat_map encode rest) lb refl) ∙ take_at (encode x) (flat_map encode rest) n refl in
          record {
            it = x;
            body = p;
            there = ap (λ l. take n (drop at l)) c.contents ∙ part_stays at n to (copied_words r c.before) out (omega (arith, place.after)) ∙ part;
            inside = inside;
            later = λ w.
                let more = flat_more encode c.before x in
                let copy = copied_more c.before x in
                let len : length (flat_map encode (c.before ++ x ∷ [])) ≡ lb + n = ap length more ∙ length-append (flat_map encode c.before) (encode x) in
                let contents = put_more out to (to + written) (copied_words r c.before) (encode (renamed_record r x)) (ap (λ k. to + k) c.counted) c.contents w.contents ∙ ap (sets out to) (sym copy) in
                record {
                  before = c.before ++ x ∷ [];
                  rest = rest;
                  each_before = All-append c.each_before (cons p nil);
                  each_rest = k;
                  stands = whole ∙ sym (append_assoc (flat_map encode c.before) (encode x) (flat_map encode rest)) ∙ ap (λ l. l ++ flat_map encode rest) (sym more);
                  read = omega (arith, len, c.read);
                  inside = inside;
                  counted = ap₂ ◌+◌ c.counted w.counted ∙ sym (ap length copy ∙ length-append (copied_words r c.before) (encode (renamed_record r x)));
                  few = omega (arith, c.few, w.counted, shorter r x);
                  contents = contents;
                  same = ap length contents ∙ length-sets out to (copied_words r (c.before ++ x ∷ []));
                };
          }

      copying_next : at < from + words → RecordAtHand at written out'
      unfolding flat_map
      copying_next h = go c.rest refl c.each_rest
        where
          go : (l : List Record) → c.rest ≡ l → All BodyRecord l → RecordAtHand at written out'
          go [] e k = absurd (omega (arith, all_words, ap (λ l. length (flat_map encode l)) e, c.read))
          go (x ∷ rest) e k = step x rest e k

      pub copying_done : from + words ≤ at → RecordsCopied r out from words to written out'
      unfolding flat_map encode
      copying_done h = go c.rest refl
        where
          go : (l : List Record) → c.rest ≡ l → RecordsCopied r out from words to written out'
          go [] e =
              record {
                records = c.before;
                each = c.each_before;
                stands = c.stands ∙ ap (λ l. flat_map encode c.before ++ flat_map encode l) e ∙ append-nil (flat_map encode c.before);
                counted = c.counted;
                contents = c.contents;
              }
          go (x ∷ rest) e = absurd (omega (arith, all_words, ap (λ l. length (flat_map encode l)) e ∙ length-append (encode x) (flat_map encode rest), c.read))

      module _ (h : at < from + words) where
        read_at : Read r out' at (copying_next h).it
        read_at = let x = copying_next h in body_read r out' at x.it x.there x.body

        -- it has room at the end of the copy
        pub copy_place : LaterPlace out' at (to + written) (body_record_length out' at)
        copy_place =
            let e = read_at.whole in
            let k = (copying_next h).inside in
            record { after = omega (arith, place.after); fits = omega (arith, c.few, c.same, place.fits) }

        -- and is copied there
        pub copy_later : {n m : ℕ} {out'' : List ℕ} → n ≡ body_record_length out' at → WordsPut out' (to + written) (renamed_words r out' at) m out'' → CopiedSoFar r out from words to (at + n) (written + m) out''
        copy_later {n} {m} {out''} e w =
            let x = copying_next h in
            let k = x.later (rw read_at.copied at w) in
            rw (e, read_at.whole) k

-- ---- the words tell the records' copy

module _ (r : ℕ → ℕ) where
  at_front : (x : Record) (ws : List ℕ) → take (length (encode x)) (drop 0 (encode x ++ ws)) ≡ encode x
  at_front x ws = take_at (encode x) ws (length (encode x)) refl

  some_word : (x : Record) (ws : List ℕ) → ¬ ([] ≡ encode x ++ ws)
  unfolding encode
  some_word x ws e = omega (arith, ap length e)

  pub copied_once : {l m : List Record} → All BodyRecord l → All BodyRecord m → flat_map encode l ≡ flat_map encode m → copied_words r l ≡ copied_words r m
  unfolding flat_map
  copied_once nil nil e = refl
  copied_once nil (cons {x} {xs} p k) e = absurd (some_word x (flat_map encode xs) e)
  copied_once (cons {x} {xs} p k) nil e = absurd (some_word x (flat_map encode xs) (sym e))
  copied_once (cons {x} {xs} p k) (cons {x = y} {xs = ys} q j) e =
      let a = body_read r (encode x ++ flat_map encode xs) 0 x (at_front x (flat_map encode xs)) p in
      let b = body_read r (encode y ++ flat_map encode ys) 0 y (at_front y (flat_map encode ys)) q in
      let long : length (encode x) ≡ length (encode y) = sym a.whole ∙ ap (λ l. body_record_length l 0) e ∙ b.whole in
      let first : encode (renamed_record r x) ≡ encode (renamed_record r y) = sym a.copied ∙ ap (λ l. renamed_words r l 0) e ∙ b.copied in
      let later : flat_map encode xs ≡ flat_map encode ys =
      sym (drop_at (encode x) (flat_map encode xs) (length (encode x)) refl) ∙ ap₂ drop long e ∙ drop_at (encode y) (flat_map encode ys) (length (encode y)) refl in
      ap₂ ◌++◌ first (copied_once k j later)
