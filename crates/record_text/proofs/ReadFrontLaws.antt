-- The records at the front of some words are put record after record.
use Prim.Native.Nat.{ℕ, zero, suc, ◌+◌, ◌-◌, ◌*◌, ◌≤◌}
use native.Mathlib.Omega.{arith}
use mathlib.Core.Path.{◌≡◌, refl, sym, ap, ◌∙◌}
use mathlib.Core.Bool.{Bool, true, false, cond, ◌&&◌}
use mathlib.Core.List.{List, [], ◌∷◌, ◌++◌, map, flat_map, append-nil, append_assoc}
use borrow.Author.Tests.{leb-true}
use lib.Dec.{leb, ltb}
use lib.ListN.{length, take, drop, length-append, length-drop}
use lib.Seq.{length-take-le}
use Rattle.model.specs.Lists.{sum}
use Rattle.model.specs.RecordReader.{Next, next, end, wrong, record_length, next_at, found, records_from, records_in}
use Rattle.record_reader.specs.Answer.{next_words_of}
use Rattle.model.proofs.ListLaws.{flat_append}
use Rattle.text.specs.declared.Text.{Text}
use Rattle.text.specs.Put.{RoomFor, Put, PutMost}
use Rattle.text.specs.RecordLine.{record_line}
use Rattle.text.proofs.PutLaws.{put_none, put_same, put_then, put_length}
use Rattle.record_text.specs.ReadFront.{ReadFront}

-- ---- what stands at a position

-- at a position a record of some words stands, within those that are left, or none does
data RecordHere (ws : List ℕ) (at : ℕ) (v : List ℕ) (x : Next) : Type 0 where
  one : x ≡ next v → 1 ≤ length v → at + length v ≤ length ws → RecordHere ws at v x
  none : length v ≡ 0 → ((more : ℕ → List (List ℕ)) → found x at more ≡ []) → RecordHere ws at v x

here : (ws : List ℕ) (at : ℕ) {v : List ℕ} → v ≡ next_words_of (next_at ws at) → RecordHere ws at v (next_at ws at)
unfolding next_at found
here ws at {v} e = go (ltb at (length ws)) (leb 1 n) (leb n (length ws - at)) (ltb (length ws) at) refl refl e
  where
    n : ℕ
    n = record_length (drop at ws)

    go : (a b c d : Bool) → leb 1 n ≡ b → leb n (length ws - at) ≡ c → v ≡ next_words_of (cond a (cond (b && c) (next (take n (drop at ws))) wrong) (cond d wrong end))
        → RecordHere ws at v (cond a (cond (b && c) (next (take n (drop at ws))) wrong) (cond d wrong end))
    go true true true d p q f =
        let size = length-take-le n (drop at ws) (omega (arith, leb-true n (length ws - at) q, length-drop at ws)) in
        one (ap next (sym f)) (omega (arith, ap length f, size, leb-true 1 n p)) (omega (arith, ap length f, size, leb-true 1 n p, leb-true n (length ws - at) q))
    go true true false d p q f = none (ap length f) (λ more. refl)
    go true false c d p q f = none (ap length f) (λ more. refl)
    go false b c true p q f = none (ap length f) (λ more. refl)
    go false b c false p q f = none (ap length f) (λ more. refl)

-- ---- reading on

sum_snoc : (l : List (List ℕ)) (v : List ℕ) → sum (map length (l ++ v ∷ [])) ≡ sum (map length l) + length v
unfolding sum
sum_snoc [] v = omega arith
sum_snoc (r ∷ l) v = omega (arith, sum_snoc l v)

-- the records before a position are put, and those from it on are still to be read
pub record Fronting (ws : List ℕ) (t : Text) (at records : ℕ) (t' : Text) : Type 0 where
  pub before : List (List ℕ)
  pub left : ℕ
  pub split : records_in ws ≡ before ++ records_from left ws at
  pub enough : length ws ≤ at + left
  pub place : at ≡ sum (map length before)
  pub inside : at ≤ length ws
  pub count : records ≡ length before
  pub fewer : records ≤ at
  pub done : Put (flat_map record_line before) t t'
  pub few : t'.end ≤ t.end + 21 * at

pub fronting_start : (ws : List ℕ) {t : Text} → RoomFor (21 * length ws) t → Fronting ws t 0 0 t
unfolding records_in sum flat_map
fronting_start ws h =
    record {
      before = [];
      left = length ws;
      split = refl;
      enough = omega arith;
      place = refl;
      inside = omega arith;
      count = refl;
      fewer = omega arith;
      done = put_none (omega arith);
      few = omega arith;
    }

module _ {ws : List ℕ} {t t' : Text} {at records : ℕ} (g : Fronting ws t at records t') {v : List ℕ} (e : v ≡ next_words_of (next_at ws at)) where
  module _ (some : ¬ (length v ≡ 0)) where
    pub front_some : 1 ≤ length v
    front_some = omega arith

    is_next : next_at ws at ≡ next v
    is_next = go (here ws at e)
      where
        go : RecordHere ws at v (next_at ws at) → next_at ws at ≡ next v
        go (one i h k) = i
        go (none z f) = absurd (some z)

    pub front_inside : at + length v ≤ length ws
    front_inside = go (here ws at e)
      where
        go : RecordHere ws at v (next_at ws at) → at + length v ≤ length ws
        go (one i h k) = k
        go (none z f) = absurd (some z)

    pub front_room : RoomFor (21 * length ws) t → RoomFor (21 * length v) t'
    front_room k = omega (arith, front_inside, g.few, put_length g.done)

    pub front_more : {t'' : Text} → PutMost (record_line v) (21 * length v) t' t'' → Fronting ws t (at + length v) (records + 1) t''
    unfolding records_from found flat_map
    front_more {t''} p = go g.left g.enough g.split
      where
        lines : flat_map record_line g.before ++ record_line v ≡ flat_map record_line (g.before ++ v ∷ [])
        lines = sym (flat_append record_line g.before (v ∷ []) ∙ ap (λ (l : List ℕ). flat_map record_line g.before ++ l) (append-nil (record_line v)))

        go : (k : ℕ) → length ws ≤ at + k → records_in ws ≡ g.before ++ records_from k ws at → Fronting ws t (at + length v) (records + 1) t''
        go zero h s = absurd (omega (arith, front_inside, front_some))
        go (suc k) h s =
            record {
              before = g.before ++ v ∷ [];
              left = k;
              split =
                  s ∙ ap (λ (x : Next). g.before ++ found x at (records_from k ws)) is_next
                  ∙ sym (append_assoc g.before (v ∷ []) (records_from k ws (at + length v)));
              enough = omega (arith, front_some);
              place = omega (arith, g.place, sum_snoc g.before v);
              inside = front_inside;
              count = omega (arith, g.count, length-append g.before (v ∷ []));
              fewer = omega (arith, g.fewer, front_some);
              done = put_same lines (put_then g.done p.put);
              few = omega (arith, g.few, p.few);
            }

  -- no record stands there
  pub front_end : length v ≡ 0 → ReadFront ws t (record { words = at; records = records }) t'
  unfolding records_from
  front_end z =
      record {
        put = put_same (ap (flat_map record_line) (sym all)) g.done;
        few = omega (arith, g.few, g.inside);
        place = g.place ∙ ap (λ (l : List (List ℕ)). sum (map length l)) (sym all);
        inside = g.inside;
        count = g.count ∙ ap length (sym all);
      }
    where
      stop : RecordHere ws at v (next_at ws at) → (k : ℕ) → records_from k ws at ≡ []
      stop s zero = refl
      stop (one i h k) (suc n) = absurd (omega arith)
      stop (none y f) (suc n) = f (records_from n ws)

      all : records_in ws ≡ g.before
      all = g.split ∙ ap (λ (l : List (List ℕ)). g.before ++ l) (stop (here ws at e) g.left) ∙ append-nil g.before
