-- The claims of specs/Claims.antt hold of every run: demand 3.
use Prim.Native.Nat.{ℕ, suc, ◌+◌, ◌-◌, ◌^◌, ◌≤◌, zero-le}
use native.Mathlib.Nat.{le_refl, le_of_eq, le_trans, zero-add}
use native.Mathlib.Omega.{arith}
use mathlib.Core.Path.{◌≡◌, refl, sym, ap, ◌∙◌, subst}
use mathlib.Core.Bool.{Bool, true, false, not, cond}
use mathlib.Core.List.{List, [], ◌∷◌, ◌++◌, map, flat_map, Memᴰ}
use lib.Dec.{T, eqb, leb, ltb, nleb→lt}
use lib.ListN.{length, get_or, drop, length-append, length-drop, length-map}
use lib.Seq.{take-append_seam}
use borrow.Author.Tests.{ltb-false}
use Rattle.model.specs.Lists.{range, sum, all}
use Rattle.model.specs.Image.{main_statements}
use Rattle.model.specs.Records.{Record, kind, encode}
use Rattle.model.specs.Check.{Flaw, fine, bad, check}
use Rattle.model.specs.Steps.{Step, write, enter, refuse, steps}
use Rattle.model.specs.Run.{Answer, done, full, flawed, short_trace, Played, stop, after, trace_of, play, accepted, runs, output, laid_over, linearize}
use Rattle.model.specs.Tally.{weight_tally, of_kind, the_words, record_figure, entry_figure, word_bound}
use Rattle.model.specs.RecordReader.{records_in}
use Rattle.model.specs.Claims.{count, rises, declared, distinct, Claims, written, records_found}
use Rattle.model.proofs.All.{head-All, tail-All, All-front, All-of, members-All}
use Rattle.model.specs.All.{All, nil, cons}
use Rattle.model.proofs.Accepted.{accepts}
use Rattle.model.specs.Accepted.{Accepted}
use Rattle.model.proofs.FlawLaws.{check_claims}
use Rattle.model.proofs.Counts.{weighs, clean, steps_tallied}
use Rattle.model.proofs.TypedRecords.{declared_record, distinct_record, rises_record}
use Rattle.model.proofs.StepsSound.{Good, steps_good}
use Rattle.model.proofs.AnglesSound.{step_claims}
use Rattle.model.proofs.ReadBack.{reads_back}
use Rattle.model.proofs.DeclaredWords.{declared_words, distinct_words, rises_words}
use Rattle.model.proofs.WordRange.{steps_words, output_words_lem}
use Rattle.model.proofs.PlayLaws.{output_fits}
use Rattle.model.proofs.TallySums.{of_kinds, kinds_total, ends, heads}

-- ---- the records and the entries of steps

unfoldable pub records_of : List Step → List Record
records_of [] = []
records_of (write t r ∷ ss) = r ∷ records_of ss
records_of (enter t g ∷ ss) = records_of ss
records_of (refuse t x ∷ ss) = records_of ss

unfoldable pub entries_of : List Step → ℕ
entries_of [] = 0
entries_of (write t r ∷ ss) = entries_of ss
entries_of (enter t g ∷ ss) = suc (entries_of ss)
entries_of (refuse t x ∷ ss) = entries_of ss

-- what records come to: f kind words for each
unfoldable pub weighs_records : (ℕ → ℕ → ℕ) → List Record → ℕ
weighs_records f [] = 0
weighs_records f (r ∷ rs) = f (kind r) (length (encode r)) + weighs_records f rs

by_records : (f : ℕ → ℕ → ℕ) (ss : List Step) → weighs f 0 ss ≡ weighs_records f (records_of ss)
unfolding weighs weighs_records records_of
by_records f [] = refl
by_records f (write t r ∷ ss) = ap (λ (n : ℕ). f (kind r) (length (encode r)) + n) (by_records f ss)
by_records f (enter t g ∷ ss) = zero-add _ ∙ by_records f ss
by_records f (refuse t x ∷ ss) = by_records f ss

by_entries : (ss : List Step) → weighs (λ k n. 0) 1 ss ≡ entries_of ss
unfolding weighs entries_of
by_entries [] = refl
by_entries (write t r ∷ ss) = zero-add _ ∙ by_entries ss
by_entries (enter t g ∷ ss) = omega (arith, by_entries ss)
by_entries (refuse t x ∷ ss) = by_entries ss

weighs_++ : (f : ℕ → ℕ → ℕ) (a b : List Record) → weighs_records f (a ++ b) ≡ weighs_records f a + weighs_records f b
unfolding weighs_records
weighs_++ f [] b = sym (zero-add _)
weighs_++ f (r ∷ a) b = omega (arith, weighs_++ f a b)

-- the words of records are as many as they weigh
length_output : (rs : List Record) → length (flat_map encode rs) ≡ weighs_records the_words rs
unfolding weighs_records flat_map
length_output [] = refl
length_output (r ∷ rs) = length-append (encode r) (flat_map encode rs) ∙ ap (λ n. length (encode r) + n) (length_output rs)

-- ---- playing steps: what is played is a front of the records; no more bodies are entered than the steps enter; all of them and all records, with no refusal, where it is done; it is never full with room for all, and never refused for a flaw
pub record Fair (room : ℕ) (ss : List Step) (p : Played) : Type 0 where
  pub rest : List Record
  pub front : p.written ++ rest ≡ records_of ss
  pub entries_most : p.entered ≤ entries_of ss
  pub whole : p.answer ≡ done → (p.written ≡ records_of ss) × T (clean ss) × (p.entered ≡ entries_of ss)
  pub ample : weighs_records the_words (records_of ss) ≤ room → (t : List ℕ) → ¬ (p.answer ≡ full t)
  pub unflawed : (n q : ℕ) → ¬ (p.answer ≡ flawed n q)

pub plays_fair : (room : ℕ) (ss : List Step) → Fair room ss (play room ss)
unfolding play records_of entries_of clean weighs_records
plays_fair room [] = record { rest = []; front = refl; entries_most = zero-le; whole = λ e. (refl, tt, refl); ample = λ h t e. absurd (let z : ◌≡◌ {A = ℕ} 0 1 = cc in omega arith); unflawed = λ n q e. absurd (let z : ◌≡◌ {A = ℕ} 0 1 = cc in omega arith) }
plays_fair room (refuse t x ∷ ss) =
    record { rest = records_of ss; front = refl; entries_most = zero-le; whole = λ e. absurd (let z : ◌≡◌ {A = ℕ} 0 1 = cc in omega arith); ample = λ h u e. absurd (let z : ◌≡◌ {A = ℕ} 0 1 = cc in omega arith); unflawed = λ n q e. absurd (let z : ◌≡◌ {A = ℕ} 0 1 = cc in omega arith) }
plays_fair room (enter t g ∷ ss) =
    let h = plays_fair room ss in
    record { rest = h.rest; front = h.front; entries_most = omega (arith, h.entries_most); whole = λ d. let x = h.whole d in (x.0, x.1, ap suc x.2); ample = h.ample; unflawed = h.unflawed }
plays_fair room (write t r ∷ ss) = go (leb (length (encode r)) room) refl (plays_fair (room - length (encode r)) ss)
  where
    go : (b : Bool) → leb (length (encode r)) room ≡ b → Fair (room - length (encode r)) ss (play (room - length (encode r)) ss)
        → Fair room (write t r ∷ ss) (cond b (after r (play (room - length (encode r)) ss)) (stop (full t)))
    go true e h =
        record {
          rest = h.rest;
          front = ap (λ (rs : List Record). r ∷ rs) h.front;
          entries_most = h.entries_most;
          whole = λ d. let x = h.whole d in (ap (λ (rs : List Record). r ∷ rs) x.0, x.1, x.2);
          ample = λ q u. h.ample (omega arith) u;
          unflawed = h.unflawed;
        }
    go false e h =
        record {
          rest = r ∷ records_of ss;
          front = refl;
          entries_most = zero-le;
          whole = λ d. absurd (let z : ◌≡◌ {A = ℕ} 0 1 = cc in omega arith);
          ample = λ q u d. omega (arith, nleb→lt (length (encode r)) room (subst (λ c. T (not c)) (sym e) tt));
          unflawed = λ n q d. absurd (let z : ◌≡◌ {A = ℕ} 0 1 = cc in omega arith);
        }

-- ---- kinds

-- each record has a kind from 0 to 8
one_kind : (r : Record) → of_kinds (range 0 9) (kind r) (length (encode r)) ≡ 1
unfolding of_kinds range kind
one_kind (Record.Head qs bs) = refl
one_kind (Record.U theta phi lambda q) = refl
one_kind (Record.CX a b) = refl
one_kind (Record.Opaque g xs qs) = refl
one_kind (Record.Barrier qs) = refl
one_kind (Record.Measure q b) = refl
one_kind (Record.Reset q) = refl
one_kind (Record.ConditionalStart b n v) = refl
one_kind Record.ConditionalEnd = refl

all_kinds : (rs : List Record) → weighs_records (of_kinds (range 0 9)) rs ≡ length rs
unfolding weighs_records
all_kinds [] = refl
all_kinds (r ∷ rs) = omega (arith, one_kind r, all_kinds rs)

same_kinds : (l : List ℕ) (k a b : ℕ) → of_kinds l k a ≡ of_kinds l k b
unfolding of_kinds
same_kinds [] k a b = refl
same_kinds (j ∷ l) k a b = ap (λ x. of_kind j k a + x) (same_kinds l k a b)

counted : (k : ℕ) (rs : List Record) → count k (map encode rs) ≡ weighs_records (of_kind k) rs
unfolding count weighs_records encode
counted k [] = refl
counted k (r ∷ rs) = ap (λ n. of_kind k (kind r) 0 + n) (counted k rs)

-- what holds of every step's record holds of the records written
module _ {P : Record → Type 0} where
  recorded : (ss : List Step) → ((t : List ℕ) (r : Record) → Memᴰ (write t r) ss → P r) → All P (records_of ss)
  unfolding records_of
  recorded [] h = nil
  recorded (write t r ∷ ss) h = cons (h t r (Memᴰ.head refl)) (recorded ss (λ u x m. h u x (Memᴰ.tail m)))
  recorded (enter t g ∷ ss) h = recorded ss (λ u x m. h u x (Memᴰ.tail m))
  recorded (refuse t x ∷ ss) h = recorded ss (λ u x m. h u x (Memᴰ.tail m))

-- a trace has at most 256 words, and what is written fits
module _ (w : List ℕ) (acc : Accepted w) where
  traced : (room : ℕ) (ss : List Step) → All (Good w acc) ss → length (trace_of (play room ss).answer) ≤ 256
  unfolding play trace_of
  traced room [] h = omega arith
  traced room (refuse t x ∷ ss) h = head-All h
  traced room (enter t g ∷ ss) h = traced room ss (tail-All h)
  traced room (write t r ∷ ss) h = go (leb (length (encode r)) room) (traced (room - length (encode r)) ss (tail-All h))
    where
      go : (b : Bool) → length (trace_of (play (room - length (encode r)) ss).answer) ≤ 256
          → length (trace_of (cond b (after r (play (room - length (encode r)) ss)) (stop (full t))).answer) ≤ 256
      go true k = k
      go false k = (head-All h).3

-- ---- a run

module _ (w : List ℕ) (depth outWords trace_words : ℕ) where
  abbrev ran : Played
  ran = runs w depth outWords trace_words

  -- f for each record: no more than the tally's, whatever the answer; and as much, where it is done and f goes by the kind alone
  module _ (f : ℕ → ℕ → ℕ) (mono : (k a b : ℕ) → a ≤ b → f k a ≤ f k b) where
    weighs_most : (p : Played) → Fair outWords (steps w depth) p → weighs_records f p.written ≤ weight_tally w f 0 depth
    weighs_most p h =
        let a : weighs_records f p.written + weighs_records f h.rest ≡ weighs_records f (records_of (steps w depth)) = sym (weighs_++ f p.written h.rest) ∙ ap (weighs_records f) h.front in
        omega (arith, (steps_tallied f 0 mono w depth).most, by_records f (steps w depth))

    weighs_done : (p : Played) → Fair outWords (steps w depth) p → ((k a b : ℕ) → f k a ≡ f k b) → p.answer ≡ done → weighs_records f p.written ≡ weight_tally w f 0 depth
    weighs_done p h flat d = let x = h.whole d in ap (weighs_records f) x.0 ∙ sym (by_records f (steps w depth)) ∙ (steps_tallied f 0 mono w depth).exactly flat x.1

  -- a run refuses before its first record, or it plays the steps
  pub data Ran : Played → Type 0 where
    none : (a : Answer) → ¬ (a ≡ done) → ((t : List ℕ) → ¬ (a ≡ full t)) → length (trace_of a) ≡ 0 → Ran (stop a)
    plays : check w ≡ fine → ltb trace_words 256 ≡ false → Ran (play outWords (steps w depth))

  pub ran_either : Ran ran
  unfolding runs accepted trace_of
  ran_either = go (ltb trace_words 256) refl (check w) refl
    where
      go : (b : Bool) → ltb trace_words 256 ≡ b → (v : Flaw) → check w ≡ v → Ran (cond b (stop short_trace) (accepted v (play outWords (steps w depth))))
      go true l v c = none short_trace (λ e. absurd (let z : ◌≡◌ {A = ℕ} 0 1 = cc in omega arith)) (λ t e. absurd (let z : ◌≡◌ {A = ℕ} 0 1 = cc in omega arith)) refl
      go false l fine c = plays c l
      go false l (bad n p) c = none (flawed n p) (λ e. absurd (let z : ◌≡◌ {A = ℕ} 0 1 = cc in omega arith)) (λ t e. absurd (let z : ◌≡◌ {A = ℕ} 0 1 = cc in omega arith)) refl

  -- of each kind no more records are written than the tally says, and as many where the run is done
  records_most : (k : ℕ) → weighs_records (of_kind k) ran.written ≤ record_figure w depth k
  unfolding record_figure weighs_records
  records_most k = go ran_either
    where
      go : {p : Played} → Ran p → weighs_records (of_kind k) p.written ≤ weight_tally w (of_kind k) 0 depth
      go (none a x y z) = zero-le
      go (plays c l) = weighs_most (of_kind k) (λ j a b h. le_refl _) _ (plays_fair outWords (steps w depth))

  records_done : ran.answer ≡ done → (k : ℕ) → weighs_records (of_kind k) ran.written ≡ record_figure w depth k
  unfolding record_figure weighs_records
  records_done d k = go ran_either d
    where
      go : {p : Played} → Ran p → p.answer ≡ done → weighs_records (of_kind k) p.written ≡ weight_tally w (of_kind k) 0 depth
      go (none a x y z) e = absurd (x e)
      go (plays c l) e = weighs_done (of_kind k) (λ j a b h. le_refl _) _ (plays_fair outWords (steps w depth)) (λ j a b. refl) e

  -- no more bodies are entered than figure 8 says, and as many where the run is done
  entries_most : ran.entered ≤ entry_figure w depth
  unfolding entry_figure
  entries_most = go ran_either
    where
      go : {p : Played} → Ran p → p.entered ≤ weight_tally w (λ kind n. 0) 1 depth
      go (none a x y z) = zero-le
      go (plays c l) =
          let x = (plays_fair outWords (steps w depth)).entries_most in
          omega (arith, x, by_entries (steps w depth), (steps_tallied (λ kind n. 0) 1 (λ j a b h. le_refl 0) w depth).most)

  entries_done : ran.answer ≡ done → ran.entered ≡ entry_figure w depth
  unfolding entry_figure
  entries_done d = go ran_either d
    where
      go : {p : Played} → Ran p → p.answer ≡ done → p.entered ≡ weight_tally w (λ kind n. 0) 1 depth
      go (none a x y z) e = absurd (x e)
      go (plays c l) e =
          let x = (plays_fair outWords (steps w depth)).whole e in
          x.2 ∙ sym (by_entries (steps w depth)) ∙ (steps_tallied (λ kind n. 0) 1 (λ j a b h. le_refl 0) w depth).exactly (λ j a b. refl) x.1

  -- no more words than the word bound
  words_most : length (output ran) ≤ word_bound w depth
  unfolding word_bound output weighs_records
  words_most = rw length_output (go ran_either)
    where
      go : {p : Played} → Ran p → weighs_records the_words p.written ≤ weight_tally w the_words 0 depth
      go (none a x y z) = zero-le
      go (plays c l) = weighs_most the_words (λ j a b h. h) _ (plays_fair outWords (steps w depth))

  -- an output of the word bound is never full
  bound_suffices : word_bound w depth ≤ outWords → (t : List ℕ) → ¬ (ran.answer ≡ full t)
  unfolding word_bound
  bound_suffices h t = go ran_either
    where
      go : {p : Played} → Ran p → ¬ (p.answer ≡ full t)
      go (none a x y z) = y t
      go (plays c l) =
          (plays_fair outWords (steps w depth)).ample (le_trans (le_of_eq (sym (by_records the_words (steps w depth)))) (le_trans (steps_tallied the_words 0 (λ j a b h. h) w depth).most h)) t

  -- the number of records of a finished run: kinds 1 to 7, kind 7's once more for the ends, and the head if any
  record_count : ran.answer ≡ done → length ran.written ≡ sum (map (record_figure w depth) (range 1 7)) + record_figure w depth 7 + cond (eqb (main_statements w) 0) 0 1
  unfolding range sum
  record_count d = omega (arith, kinds_done, kinds_total w depth (range 0 9), ends w depth, heads w depth, all_kinds ran.written)
    where
      kinds_done : weighs_records (of_kinds (range 0 9)) ran.written ≡ weight_tally w (of_kinds (range 0 9)) 0 depth
      kinds_done = go ran_either d
        where
          go : {p : Played} → Ran p → p.answer ≡ done → weighs_records (of_kinds (range 0 9)) p.written ≡ weight_tally w (of_kinds (range 0 9)) 0 depth
          go (none a x y z) e = absurd (x e)
          go (plays c l) e = weighs_done (of_kinds (range 0 9)) (λ j a b h. le_of_eq (same_kinds (range 0 9) j a b)) _ (plays_fair outWords (steps w depth)) (same_kinds (range 0 9)) e

  -- what holds of every record of an accepted program's steps holds of those written
  all_written : {P : Record → Type 0} → ((acc : Accepted w) (t : List ℕ) (r : Record) → Memᴰ (write t r) (steps w depth) → P r) → All P ran.written
  all_written {P} h = go ran_either
    where
      go : {p : Played} → Ran p → All P p.written
      go (none a x y z) = nil
      go (plays c l) =
          let f = plays_fair outWords (steps w depth) in
          All-front _ f.rest (subst (All P) (sym f.front) (recorded (steps w depth) (h (accepts w c))))

  -- a trace fits the 256 words that a run asks for, and so the words lent
  trace_fits : (length (trace_of ran.answer) ≤ 256) × (length (trace_of ran.answer) ≤ trace_words)
  trace_fits = go ran_either
    where
      go : {p : Played} → Ran p → (length (trace_of p.answer) ≤ 256) × (length (trace_of p.answer) ≤ trace_words)
      go (none a x y z) = omega arith
      go (plays c l) = let h = traced w (accepts w c) outWords (steps w depth) (steps_good w (accepts w c) depth) in omega (arith, ltb-false trace_words 256 l)

  -- a flaw that a run refuses for is check's
  flaw_number : (n p : ℕ) → ran.answer ≡ flawed n p → (1 ≤ n) × (n ≤ 8)
  unfolding runs accepted
  flaw_number n p = go (ltb trace_words 256) (check w) refl
    where
      go : (b : Bool) (v : Flaw) → check w ≡ v → (cond b (stop short_trace) (accepted v (play outWords (steps w depth)))).answer ≡ flawed n p → (1 ≤ n) × (n ≤ 8)
      go true v c e = absurd (let z : ◌≡◌ {A = ℕ} 0 1 = cc in omega arith)
      go false fine c e = absurd ((plays_fair outWords (steps w depth)).unflawed n p e)
      go false (bad m q) c e = let d : m ≡ n = cc in subst (λ (k : ℕ). (1 ≤ k) × (k ≤ 8)) d (check_claims w m q c).number

  -- what is written fits the output lent
  room_enough : length (output ran) ≤ outWords
  unfolding output flat_map
  room_enough = go ran_either
    where
      go : {p : Played} → Ran p → length (output p) ≤ outWords
      go (none a x y z) = zero-le
      go (plays c l) = output_fits outWords (steps w depth)

-- ---- the claims

module _ (image : List ℕ) (depth : ℕ) (out trace : List ℕ) where
  abbrev played : Played
  played = runs image depth (length out) (length trace)

  -- the words written stand in front of the output, and the record reader finds the records in them
  front : written (linearize image depth out trace) ≡ output played
  unfolding linearize
  front = take-append_seam (output played) (drop (length (output played)) out)

  records_read : records_found (linearize image depth out trace) ≡ map encode played.written
  unfolding output
  records_read = ap records_in front ∙ reads_back played.written

  kept : (ws old : List ℕ) → length ws ≤ length old → length (laid_over ws old) ≡ length old
  kept ws old h = length-append ws (drop (length ws) old) ∙ omega (arith, length-drop (length ws) old)

  joined : (rs : List Record) → flat_map (λ r. r) (map encode rs) ≡ flat_map encode rs
  unfolding flat_map
  joined [] = refl
  joined (r ∷ rs) = ap (λ (l : List ℕ). encode r ++ l) (joined rs)

  -- each record found is the words of one written
  found_all : (P : List ℕ → Type 0) → All (λ r. P (encode r)) played.written → (r : List ℕ) → Memᴰ r (records_found (linearize image depth out trace)) → P r
  found_all P h r m = members-All (subst (All P) (sym records_read) (All-of encode h)) r m

  sound_step : (acc : Accepted image) (t : List ℕ) (r : Record) → Memᴰ (write t r) (steps image depth) → T (declared_record image r) × T (distinct_record image r) × T (rises_record r)
  sound_step acc t r m = let g = members-All (steps_good image acc depth) (write t r) m in (g.0, g.1, g.2)

  words_written : T (all (λ x. ltb x (2 ^ 64)) image) → T (all (λ x. ltb x (2 ^ 64)) (output played))
  unfolding output
  words_written h =
      output_words_lem
      (all_written image depth (length out) (length trace)
      (λ acc t r m.
      members-All
      (steps_words image acc h depth (λ u q k. let g = sound_step acc u q k in (g.0, g.2, (step_claims image depth).angles u q k)))
      (write t r) m))

  pub claims : Claims image depth out trace (linearize image depth out trace)
  unfolding linearize output
  claims =
      record {
        most = λ k. subst (λ (n : ℕ). n ≤ record_figure image depth k) (sym (ap (count k) records_read ∙ counted k played.written)) (records_most image depth (length out) (length trace) k);
        exactly = λ d k. ap (count k) records_read ∙ counted k played.written ∙ records_done image depth (length out) (length trace) d k;
        bounded = words_most image depth (length out) (length trace);
        ample = bound_suffices image depth (length out) (length trace);
        number = record_count image depth (length out) (length trace);
        read = ap length records_read ∙ length-map played.written encode;
        filled = ap (flat_map (λ r. r)) records_read ∙ joined played.written ∙ sym front;
        entries_most = entries_most image depth (length out) (length trace);
        entries = entries_done image depth (length out) (length trace);
        declares = found_all (λ r. T (declared image r)) (all_written image depth (length out) (length trace) (λ acc t r m. declared_words image r (sound_step acc t r m).0));
        differs = found_all (λ r. T (distinct image r)) (all_written image depth (length out) (length trace) (λ acc t r m. distinct_words image r (sound_step acc t r m).1));
        barriers_rise = found_all (λ r. get_or r 0 0 ≡ 4 → T (rises (drop 2 r))) (all_written image depth (length out) (length trace) (λ acc t r m. rises_words r (sound_step acc t r m).2));
        flaws = flaw_number image depth (length out) (length trace);
        traces = (trace_fits image depth (length out) (length trace)).0;
        lengths = (kept (output played) out (room_enough image depth (length out) (length trace)), kept (trace_of played.answer) trace (trace_fits image depth (length out) (length trace)).1);
        fits = λ h. subst (λ (l : List ℕ). T (all (λ x. ltb x (2 ^ 64)) l)) (sym front) (words_written h);
      }
