-- Playing steps into a lent output: what a step does to it, one part after another, and a loop that plays steps.
use Prim.Native.Nat.{ℕ, suc, ◌+◌, ◌-◌, ◌≤◌, ◌<◌, zero-le}
use native.Mathlib.Nat.{add-zero, zero-add}
use native.Mathlib.Numerals.{add-one}
use native.Mathlib.Omega.{arith}
use mathlib.Core.Path.{◌≡◌, refl, sym, ap, ◌∙◌}
use mathlib.Core.Bool.{Bool, true, false, cond}
use mathlib.Core.List.{List, [], ◌∷◌, ◌++◌, flat_map, append_assoc}
use borrow.Author.Tests.{leb-true, le-leb}
use lib.Dec.{leb}
use lib.ListN.{length, set, length-append}
use lib.Seq.{sets, sets-eq, length-sets}
use Rattle.model.specs.Lists.{range}
use Rattle.model.specs.Records.{Record, encode}
use Rattle.model.specs.Steps.{Step, write, enter, refuse, in_rounds}
use Rattle.model.specs.Run.{Answer, done, refused, full, flawed, short_trace, Played, stop, after, play, output, laid_over}
use Rattle.model.specs.Playing.{OutputState, room, Plays, Going}
use Rattle.model.proofs.ReadBack.{words_enough}

-- stores after stores
pub sets_append : (out : List ℕ) (i : ℕ) (ws vs : List ℕ) → sets (sets out i ws) (i + length ws) vs ≡ sets out i (ws ++ vs)
sets_append out i [] vs = ap (λ n. sets out n vs) (add-zero i)
sets_append out i (w ∷ ws) vs =
    let e : i + suc (length ws) ≡ suc i + length ws = omega arith in
    ap (λ n. sets (sets (set out i w) (suc i) ws) n vs) e ∙ sets_append (set out i w) (suc i) ws vs

-- what is played fits in the room
pub output_fits : (n : ℕ) (ss : List Step) → length (output (play n ss)) ≤ n
unfolding play output flat_map
output_fits n [] = zero-le
output_fits n (refuse t x ∷ ss) = zero-le
output_fits n (enter t g ∷ ss) = output_fits n ss
output_fits n (write t r ∷ ss) = go (leb (length (encode r)) n) refl (output_fits (n - length (encode r)) ss)
  where
    go : (b : Bool) → leb (length (encode r)) n ≡ b → length (output (play (n - length (encode r)) ss)) ≤ n - length (encode r)
        → length (output (cond b (after r (play (n - length (encode r)) ss)) (stop (full t)))) ≤ n
    go true e h = simp length-append (omega (arith, leb-true (length (encode r)) n e))
    go false e h = zero-le

-- ---- where steps come to from a place, and the answer

abbrev came : OutputState → Played → OutputState × Answer
came p x = (record { out = sets p.out p.words (output x); words = p.words + length (output x); records = p.records + length x.written }, x.answer)

abbrev comes : List Step → OutputState → OutputState × Answer
comes ss p = came p (play (room p) ss)

-- nothing is written
came_stop : (p : OutputState) (a : Answer) → came p (stop a) ≡ (p, a)
unfolding output flat_map
came_stop p a = λ i. (record { out = p.out; words = add-zero p.words i; records = add-zero p.records i }, a)

-- a record is written, and steps are played after it
abbrev wrote : OutputState → Record → OutputState
wrote p r = record { out = sets p.out p.words (encode r); words = p.words + length (encode r); records = p.records + 1 }

came_after : (r : Record) (ss : List Step) (p : OutputState) → came p (after r (play (room p - length (encode r)) ss)) ≡ comes ss (wrote p r)
unfolding output flat_map
came_after r ss p = ap (λ n. came p (after r (play n ss))) less ∙ moved (play (room (wrote p r)) ss)
  where
    less : room p - length (encode r) ≡ room (wrote p r)
    less = simp length-sets (omega arith)

    moved : (x : Played) → came p (after r x) ≡ came (wrote p r) x
    moved x =
        let words : p.words + length (encode r ++ output x) ≡ p.words + length (encode r) + length (output x) = simp length-append (omega arith) in
        let records : p.records + suc (length x.written) ≡ p.records + 1 + length x.written = omega arith in
        λ i. (record { out = sym (sets_append p.out p.words (encode r) (output x)) i; words = words i; records = records i }, x.answer)

-- steps after others, which came to a place and an answer
next : List Step → OutputState → Answer → OutputState × Answer
next ss p done = comes ss p
next ss p (refused t x) = (p, refused t x)
next ss p (full t) = (p, full t)
next ss p (flawed n q) = (p, flawed n q)
next ss p short_trace = (p, short_trace)

abbrev onward : List Step → OutputState × Answer → OutputState × Answer
onward ss x = next ss x.0 x.1

stays : (ss : List Step) (p : OutputState) (a : Answer) → ¬ (a ≡ done) → next ss p a ≡ (p, a)
unfolding next
stays ss p done h = absurd (h refl)
stays ss p (refused t x) h = refl
stays ss p (full t) h = refl
stays ss p (flawed n q) h = refl
stays ss p short_trace h = refl

comes_append : (s ss : List Step) (p : OutputState) → comes (s ++ ss) p ≡ onward ss (comes s p)
unfolding play next output
comes_append [] ss p = sym (ap (onward ss) (came_stop p done))
comes_append (refuse t x ∷ s) ss p = refl
comes_append (enter t g ∷ s) ss p = comes_append s ss p
comes_append (write t r ∷ s) ss p = go (leb (length (encode r)) (room p)) (comes_append s ss (wrote p r))
  where
    left : List Step → Played
    left l = after r (play (room p - length (encode r)) l)

    go : (b : Bool) → comes (s ++ ss) (wrote p r) ≡ onward ss (comes s (wrote p r))
        → came p (cond b (left (s ++ ss)) (stop (full t))) ≡ onward ss (came p (cond b (left s) (stop (full t))))
    go true e = came_after r (s ++ ss) p ∙ e ∙ sym (ap (onward ss) (came_after r s p))
    go false e = refl

-- ---- functions that play steps

module _ {ss : List Step} {p q : OutputState} {a : Answer} where
  there : Plays ss p q a → (q, a) ≡ comes ss p
  there h = λ i. (record { out = h.contents i; words = h.position i; records = h.counts i }, h.answers i)

  plays : q.words ≤ length q.out → (q, a) ≡ comes ss p → Plays ss p q a
  unfolding output
  plays h e =
      let o = ap (λ x. x.0.out) e in
      let w = ap (λ x. x.0.words) e in
      let n = ap (λ x. x.0.records) e in
      record {
        contents = o;
        position = w;
        counts = n;
        answers = ap (λ x. x.1) e;
        fits = h;
        same = ap length o ∙ simp length-sets;
        fewer = omega (arith, w, n, words_enough (play (room p) ss).written);
      }

-- steps that stop at once
pub plays_stop : (ss : List Step) {p : OutputState} {a : Answer} → p.words ≤ length p.out → play (room p) ss ≡ stop a → Plays ss p p a
plays_stop ss {p} {a} h e = plays h (sym (ap (came p) e ∙ came_stop p a))

-- a record is written
pub plays_write : (t : List ℕ) (r : Record) {p q : OutputState} → p.words + length (encode r) ≤ length p.out
    → q.out ≡ sets p.out p.words (encode r) → q.words ≡ p.words + length (encode r) → q.records ≡ p.records + 1 → Plays (write t r ∷ []) p q done
unfolding play
plays_write t r {p} {q} h o w n =
    let f : q.words ≤ length q.out = rw o (simp length-sets (omega arith)) in
    let e : q ≡ wrote p r = λ i. record { out = o i; words = w i; records = n i } in
    let k : length (encode r) ≤ room p = omega arith in
    plays f (ap (λ x. (x, done)) e ∙ rw (le-leb _ _ k) (sym (came_after r [] p ∙ came_stop (wrote p r) done)))

-- a body is entered, which leaves no mark
pub plays_enter : (t : List ℕ) (g : ℕ) {ss : List Step} {p q : OutputState} {a : Answer} → Plays ss p q a → Plays (enter t g ∷ ss) p q a
unfolding play output
plays_enter t g h = plays h.fits (there h)

-- steps after others that are done, and after others that stop
pub plays_append : {s ss : List Step} {p q q' : OutputState} {a : Answer} → Plays s p q done → Plays ss q q' a → Plays (s ++ ss) p q' a
unfolding next
plays_append {s} {ss} {p} h k = plays k.fits (there k ∙ ap (onward ss) (there h) ∙ sym (comes_append s ss p))

pub plays_stopped : {s : List Step} (ss : List Step) {p q : OutputState} {a : Answer} → Plays s p q a → ¬ (a ≡ done) → Plays (s ++ ss) p q a
plays_stopped {s} ss {p} {q} {a} h n = plays h.fits (sym (stays ss q a n) ∙ ap (onward ss) (there h) ∙ sym (comes_append s ss p))

-- ---- a loop that plays steps

pub going_start : (ss : List Step) {p : OutputState} → p.words ≤ length p.out → Going ss ss p p
unfolding play
going_start ss h = record { part = []; split = refl; played = plays_stop [] h refl }

module _ {ss rest : List Step} {from now : OutputState} (g : Going ss rest from now) where
  -- the rest is played
  pub going_rest : {to : OutputState} {a : Answer} → Plays rest now to a → Plays ss from to a
  going_rest h = rw g.split (plays_append g.played h)

  -- a part of the rest is played: it is done, or it is not
  pub going_part : {part more : List Step} {to : OutputState} → rest ≡ part ++ more → Plays part now to done → Going ss more from to
  going_part {part} {more} e h =
      record {
        part = g.part ++ part;
        split = g.split ∙ ap (λ l. g.part ++ l) e ∙ sym (append_assoc g.part part more);
        played = plays_append g.played h;
      }

  pub going_stopped : {part : List Step} (more : List Step) {to : OutputState} {a : Answer} → rest ≡ part ++ more → Plays part now to a → ¬ (a ≡ done) → Plays ss from to a
  going_stopped more e h n = going_rest (rw e (plays_stopped more h n))

  -- the rest stops at once
  pub going_stop : {a : Answer} → play (room now) rest ≡ stop a → Plays ss from now a
  going_stop e = going_rest (plays_stop rest g.played.fits e)

  pub going_done : rest ≡ [] → Plays ss from now done
  unfolding play
  going_done e = going_stop (rw e)

-- ---- rounds: those from i on are round i and those from i + 1 on

module _ (g : ℕ → List Step) where
  pub rounds_next : (i n : ℕ) → i < n → flat_map g (range i (n - i)) ≡ g i ++ flat_map g (range (i + 1) (n - (i + 1)))
  unfolding flat_map range
  rounds_next i n h =
      let e : n - i ≡ suc (n - (i + 1)) = omega arith in
      rw (e, add-one i)

  pub rounds_none : (i n : ℕ) → n ≤ i → flat_map g (range i (n - i)) ≡ []
  unfolding flat_map range
  rounds_none i n h =
      let e : n - i ≡ 0 = omega arith in
      rw e

  -- all of n rounds, and n statements from a on
  pub rounds_all : (n : ℕ) → in_rounds n g ≡ flat_map g (range 0 (n - 0))
  unfolding in_rounds
  rounds_all n =
      let e : n - 0 ≡ n = omega arith in
      rw e

  pub rounds_from : (a n : ℕ) → flat_map g (range a n) ≡ flat_map g (range a (a + n - a))
  rounds_from a n =
      let e : a + n - a ≡ n = omega arith in
      rw e

-- ---- the run: what it leaves of an output that was lent to it

pub plays_all : (ss : List Step) {out : List ℕ} {to : OutputState} {a : Answer} → Plays ss (record { out = out; words = 0; records = 0 }) to a
    → let x = play (length out) ss in (a ≡ x.answer) × (to.records ≡ length x.written) × (to.words ≡ length (output x)) × (to.out ≡ laid_over (output x) out)
plays_all ss {out} h =
    let e : length out - 0 ≡ length out = omega arith in
    let f : 0 + length (output (play (length out) ss)) ≤ length out = omega (arith, output_fits (length out) ss) in (
      rw e at h.answers,
      rw (e, zero-add) at h.counts,
      rw (e, zero-add) at h.position,
      rw (e, sets-eq (output (play (length out) ss)) out 0 f, zero-add) at h.contents,
    )
