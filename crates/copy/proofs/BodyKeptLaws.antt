-- What the words of a finished body, standing in the output, say of a later call of its gate.
use Prim.Native.Nat.{ℕ, zero, suc, ◌+◌, ◌-◌, ◌≤◌, ◌<◌}
use native.Mathlib.Nat.{add-zero, le_refl}
use mathlib.Core.Logic.{◌⊎◌, inl, inr}
use native.Mathlib.Omega.{arith}
use mathlib.Core.Path.{◌≡◌, refl, sym, ap, ap₂, ◌∙◌}
use mathlib.Core.Bool.{Bool, true, false, not, cond}
use mathlib.Core.List.{List, [], ◌∷◌, ◌++◌, map, flat_map, append_assoc}
use lib.Dec.{T, eqb}
use lib.ListN.{length, get_or, set, take, drop, length-map, length-append}
use lib.Seq.{sets, sets-eq, length-sets, take-set-le, drop-set-add, drop_at, take_at, length-take-le}
use borrow.Author.Tests.{eqb-true, eqb-false, eq-eqb, ne_eqb}
use Rattle.value.specs.declared.Value.{Value}
use Rattle.model.specs.Image.{gates, gate_arguments}
use Rattle.model.specs.Records.{Record, encode}
use Rattle.model.specs.Steps.{Step, open_gate, opening}
use Rattle.model.specs.Run.{done, play, output}
use Rattle.model.specs.Playing.{OutputState, room, Plays}
use Rattle.model.specs.Claims.{differ}
use Rattle.model.proofs.All.{test, all-All, All-getD}
use Rattle.model.specs.All.{All, nil, cons}
use Rattle.model.specs.Accepted.{Accepted}
use Rattle.model.proofs.ReadBack.{words_enough}
use Rattle.model.proofs.PlayLaws.{output_fits}
use Rattle.copy.specs.Renaming.{renaming, renamed_record, copied_words}
use Rattle.copy.specs.BodyKept.{body_frame, body_steps, BodyKept}
use Rattle.copy.proofs.Silent as silent
use Rattle.copy.proofs.Renamed as renamed
use Rattle.copy.proofs.Silent.{Silent, after_enter, no_write, no_refusal, silent_plays, plays_silent, openings_hushed}
use Rattle.copy.proofs.Renamed.{Renamed, Formals, Levels, gate_renamed, renamed_plays, shorter}

-- ---- the renaming of some qubits to others, by their places: what the code looks up

not_t : (b : Bool) → T (not b) → b ≡ false
not_t true k = absurd k
not_t false k = refl

-- two places of a list without repetition hold one number only if they are one place
module _ where
  pub differs_at : (l : List ℕ) (i j : ℕ) → T (differ l) → i < length l → j < length l → get_or l i 0 ≡ get_or l j 0 → i ≡ j
  unfolding differ
  differs_at [] i j d p q e = absurd (omega arith)
  differs_at (x ∷ l) zero zero d p q e = refl
  differs_at (x ∷ l) zero (suc j) d p q e = absurd (eqb-false (get_or l j 0) x (not_t _ (All-getD j 0 (omega arith) (all-All _ l (test 0 _ d)))) (sym e))
  differs_at (x ∷ l) (suc i) zero d p q e = absurd (eqb-false (get_or l i 0) x (not_t _ (All-getD i 0 (omega arith) (all-All _ l (test 0 _ d)))) e)
  differs_at (x ∷ l) (suc i) (suc j) d p q e = ap suc (differs_at l i j (test 1 _ d) (omega arith) (omega arith) e)

place_eqb : (l : List ℕ) (i j : ℕ) → T (differ l) → i < length l → j < length l → eqb (get_or l i 0) (get_or l j 0) ≡ eqb i j
place_eqb l i j d p q = go (eqb i j) refl
  where
    go : (b : Bool) → eqb i j ≡ b → eqb (get_or l i 0) (get_or l j 0) ≡ b
    go true e = eq-eqb _ _ (ap (λ k. get_or l k 0) (eqb-true i j e))
    go false e = ne_eqb _ _ (λ k. eqb-false i j e (differs_at l i j d p q k))

renaming_each : (qs qs' : List ℕ) → length qs ≡ length qs' → T (differ qs) → qs' ≡ map (renaming qs qs') qs
unfolding renaming differ
renaming_each [] [] e d = refl
renaming_each [] (q' ∷ qs') e d = absurd (omega arith)
renaming_each (q ∷ qs) [] e d = absurd (omega arith)
renaming_each (q ∷ qs) (q' ∷ qs') e d =
    ap₂ ◌∷◌ (sym (ap (λ b. cond b q' (renaming qs qs' q)) (eq-eqb q q refl)))
    (renaming_each qs qs' (omega arith) (test 1 _ d) ∙ same (all-All _ qs (test 0 _ d)))
  where
    same : {l : List ℕ} → All (λ y. T (not (eqb y q))) l → map (renaming qs qs') l ≡ map (λ x. cond (eqb x q) q' (renaming qs qs' x)) l
    same nil = refl
    same (cons {x} k ks) = ap₂ ◌∷◌ (sym (ap (λ b. cond b q' (renaming qs qs' x)) (not_t (eqb x q) k))) (same ks)

-- the test of the code: both pairwise distinct
pub distinct_formals : (n : ℕ) (qs qs' : List ℕ) → length qs ≡ n → length qs' ≡ n → T (differ qs) → T (differ qs') → Formals (renaming qs qs') n qs qs'
distinct_formals n qs qs' e e' d d' =
    record {
      many = e;
      each = renaming_each qs qs' (e ∙ sym e') d;
      apart = λ i j p q. place_eqb qs' i j d' (omega arith) (omega arith) ∙ sym (place_eqb qs i j d (omega arith) (omega arith));
    }

-- ---- words that stand before a place are not touched by what is written from there on

part_of_set : (from n i a : ℕ) (l : List ℕ) → from + n ≤ i → take n (drop from (set l i a)) ≡ take n (drop from l)
part_of_set from n i a l h =
    let e : i ≡ from + (i - from) = omega arith in
    ap (λ k. take n (drop from (set l k a))) e ∙ ap (take n) (drop-set-add from l (i - from) a) ∙ take-set-le n (drop from l) (i - from) a (omega arith)

pub part_stays : (from n at : ℕ) (ws l : List ℕ) → from + n ≤ at → take n (drop from (sets l at ws)) ≡ take n (drop from l)
part_stays from n at [] l h = refl
part_stays from n at (w ∷ ws) l h = part_stays from n (suc at) ws (set l at w) (omega arith) ∙ part_of_set from n at w l h

-- words just written stand there
pub part_new : (at : ℕ) (ws l : List ℕ) → at + length ws ≤ length l → take (length ws) (drop at (sets l at ws)) ≡ ws
part_new at ws l h =
    ap (λ k. take (length ws) (drop at k)) (sets-eq ws l at h)
    ∙ ap (take (length ws)) (ap (drop at) (append_assoc (take at l) ws (drop (at + length ws) l)) ∙ drop_at (take at l) (ws ++ drop (at + length ws) l) at (length-take-le at l (omega arith)))
    ∙ take_at ws (drop (at + length ws) l) (length ws) refl

-- ---- the table's invariant

-- the records that stand there
abbrev pub kept_records : {image out : List ℕ} {at g n : ℕ} {vs : List Value} {qs : List ℕ} {from words records : ℕ} → BodyKept image out at g n vs qs from words records → List Record
kept_records {image} {g = g} {n = n} {vs = vs} {qs = qs} k = (play k.ahead (open_gate (opening image n) (body_frame k.trace g vs qs) g)).written

module _ {image out : List ℕ} {at g n : ℕ} {vs : List Value} {qs : List ℕ} {from words records : ℕ} (k : BodyKept image out at g n vs qs from words records) where
  -- what is written later leaves it
  pub kept_later : (ws : List ℕ) (to : ℕ) → at ≤ to → BodyKept image (sets out at ws) to g n vs qs from words records
  kept_later ws to h =
      record {
        ahead = k.ahead;
        trace = k.trace;
        finished = k.finished;
        long = k.long;
        stands = part_stays from words at ws out k.before ∙ k.stands;
        counted = k.counted;
        before = omega (arith, k.before);
      }

-- a body that has just been played to its end
pub kept_new : (image : List ℕ) (g n : ℕ) (t : List ℕ) (vs : List Value) (qs : List ℕ) {p q : OutputState} → Plays (open_gate (opening image n) (body_frame t g vs qs) g) p q done
    → p.words ≤ length p.out → BodyKept image q.out q.words g n vs qs p.words (q.words - p.words) (q.records - p.records)
kept_new image g n t vs qs {p} {q} h f =
    let fits = output_fits (room p) (open_gate (opening image n) (body_frame t g vs qs) g) in
    let long : q.words - p.words ≡ length (output (play (room p) (open_gate (opening image n) (body_frame t g vs qs) g))) = omega (arith, h.position) in
    record {
      ahead = room p;
      trace = t;
      finished = sym h.answers;
      long = long;
      stands = ap₂ (λ m l. take m (drop p.words l)) long h.contents ∙ part_new p.words _ p.out (omega arith);
      counted = omega (arith, h.counts);
      before = omega (arith, h.position);
    }

-- ---- the call that is copied

-- a renamed record is never longer
pub renamed_shorter : (r : ℕ → ℕ) (l : List Record) → length (flat_map encode (map (renamed_record r) l)) ≤ length (flat_map encode l)
unfolding flat_map
renamed_shorter r [] = omega arith
renamed_shorter r (x ∷ l) = simp length-append (omega (arith, shorter r x, renamed_shorter r l))

abbrev pub copied_place : (ℕ → ℕ) → List Record → OutputState → OutputState
copied_place r rs p = record { out = sets p.out p.words (copied_words r rs); words = p.words + length (copied_words r rs); records = p.records + length rs }

-- Steps that are others renamed, which were played to their end: to write the renamed records is to play them.
pub copied_plays : (r : ℕ → ℕ) (ahead : ℕ) {ss ss' : List Step} → Renamed r ss ss' → (play ahead ss).answer ≡ done
    → (p : OutputState) → p.words + length (output (play ahead ss)) ≤ length p.out → Plays ss' p (copied_place r (play ahead ss).written p) done
unfolding output
copied_plays r ahead {ss} {ss'} h d p f =
    let a = renamed_plays r ahead (room p) h d (omega arith) in
    let s = renamed_shorter r (play ahead ss).written in
    let e = ap (λ l. flat_map encode l) a.records in
    record {
      contents = ap (sets p.out p.words) (sym e);
      position = ap (λ l. p.words + length l) (sym e);
      counts = ap (λ n. p.records + n) (sym (ap length a.records ∙ length-map (play ahead ss).written (renamed_record r)));
      answers = sym a.finished;
      fits = simp length-sets (omega arith);
      same = simp length-sets;
      fewer = omega (arith, words_enough (map (renamed_record r) (play ahead ss).written), length-map (play ahead ss).written (renamed_record r));
    }

-- The law that the code's copy rests on: the table's entry, the same values, levels as before or enough in both, the formals renamed, and room for the words.
pub kept_copies : {image : List ℕ} → Accepted image → (r : ℕ → ℕ) (p : OutputState) (g n n' : ℕ) (vs : List Value) (qs qs' t' : List ℕ) {from words records : ℕ} (k : BodyKept image p.out p.words g n vs qs from words records)
    → g < gates image → Levels r g n n' → Formals r (gate_arguments image g) qs qs' → p.words + words ≤ length p.out
    → Plays (open_gate (opening image n') (body_frame t' g vs qs') g) p (copied_place r (kept_records k) p) done
kept_copies {image} acc r p g n n' vs qs qs' t' k h l f fits =
    copied_plays r k.ahead (gate_renamed r image acc n n' k.trace t' g vs qs qs' h l f) k.finished p (omega (arith, k.long))

-- ---- words

-- where steps are each other's renamed, the copy is as long as what is copied: a barrier loses no qubit
pub copied_long : (r r' : ℕ → ℕ) (ahead : ℕ) {ss ss' : List Step} → Renamed r ss ss' → Renamed r' ss' ss → (play ahead ss).answer ≡ done
    → length (copied_words r (play ahead ss).written) ≡ length (output (play ahead ss))
unfolding output
copied_long r r' ahead {ss} {ss'} h h' d =
    let a = renamed_plays r ahead ahead h d (output_fits ahead ss) in
    let b = renamed_plays r' ahead ahead h' a.finished (output_fits ahead ss') in
    let s = renamed_shorter r (play ahead ss).written in
    let s' = renamed_shorter r' (play ahead ss').written in
    let e = ap (λ l. length (flat_map encode l)) a.records in
    let e' = ap (λ l. length (flat_map encode l)) b.records in
    omega arith

-- ---- silent bodies, as the code plays them

-- silent steps are played from any place to that place
pub silent_stays : {ss : List Step} → Silent ss → (p : OutputState) → p.words ≤ length p.out → Plays ss p p done
unfolding output flat_map
silent_stays {ss} h p f =
    let s = silent_plays (room p) h in
    record {
      contents = ap (λ l. sets p.out p.words (flat_map encode l)) (sym s.0);
      position = sym (add-zero p.words) ∙ ap (λ l. p.words + length (flat_map encode l)) (sym s.0);
      counts = sym (add-zero p.records) ∙ ap (λ l. p.records + length l) (sym s.0);
      answers = sym s.1;
      fits = f;
      same = refl;
      fewer = omega arith;
    }

-- The law of a table of silent bodies: with the same values, as many levels or more, and any qubits, nothing is to be done.
pub hushed_plays : (image : List ℕ) (g n n' : ℕ) (vs : List Value) (t t' qs qs' : List ℕ) → Silent (open_gate (opening image n) (body_frame t g vs qs) g) → n ≤ n'
    → (p : OutputState) → p.words ≤ length p.out → Plays (open_gate (opening image n') (body_frame t' g vs qs') g) p p done
hushed_plays image g n n' vs t t' qs qs' h l p f = silent_stays ((openings_hushed image n n' l).hushed t t' g vs qs qs' h) p f

-- a body that was played to its end and wrote no word
kept_quiet : {image out : List ℕ} {at g n : ℕ} {vs : List Value} {qs : List ℕ} {from words records : ℕ} (k : BodyKept image out at g n vs qs from words records) → words ≡ 0 → Silent (body_steps image n k.trace g vs qs)
unfolding output
kept_quiet {image} {g = g} {n = n} {vs = vs} {qs = qs} k e =
    plays_silent k.ahead (body_steps image n k.trace g vs qs) (empty (kept_records k) (omega (arith, k.long, words_enough (kept_records k)))) k.finished
  where
    empty : (l : List Record) → length l ≡ 0 → l ≡ []
    empty [] d = refl
    empty (x ∷ l) d = absurd (omega arith)

-- a renamed list of steps is as silent as the other
renamed_quiet : {r : ℕ → ℕ} {ss ss' : List Step} → Renamed r ss ss' → Silent ss → Silent ss'
renamed_quiet renamed.nothing h = silent.nothing
renamed_quiet (renamed.enters k) h = silent.enters (renamed_quiet k (after_enter h))
renamed_quiet (renamed.writes e k) h = absurd (no_write h)
renamed_quiet (renamed.refuses k) h = absurd (no_refusal h)

-- The law that a call of such a body rests on: with the same values, no fewer levels or every call opened in both, and any qubits, nothing is to be done.
pub kept_silent : {image : List ℕ} → Accepted image → (p : OutputState) (g n n' : ℕ) (vs : List Value) (qs qs' t' : List ℕ) {out : List ℕ} {at from words records : ℕ} → BodyKept image out at g n vs qs from words records → words ≡ 0
    → g < gates image → length qs ≡ gate_arguments image g → (n ≤ n') ⊎ ((g < n) × (g < n')) → p.words ≤ length p.out → Plays (body_steps image n' t' g vs qs') p p done
kept_silent {image} acc p g n n' vs qs qs' t' k e h l (inl m) f = hushed_plays image g n n' vs k.trace t' qs qs' (kept_quiet k e) m p f
kept_silent {image} acc p g n n' vs qs qs' t' k e h l (inr m) f =
    let same : Formals (λ x. x) (gate_arguments image g) qs qs = record { many = l; each = sym (map_same qs); apart = λ i j _ _. refl } in
    hushed_plays image g n' n' vs t' t' qs qs' (renamed_quiet (gate_renamed (λ x. x) image acc n n' k.trace t' g vs qs qs h (inr m) same) (kept_quiet k e)) (le_refl n') p f
  where
    map_same : (l : List ℕ) → map (λ x. x) l ≡ l
    map_same [] = refl
    map_same (x ∷ l) = ap (λ (m : List ℕ). x ∷ m) (map_same l)
