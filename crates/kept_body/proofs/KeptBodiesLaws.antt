-- The table of kept bodies: when a body is put into its slot, what is written later, and what a slot says of a later call.
use Prim.Native.Nat.{ℕ, ◌+◌, ◌-◌, ◌*◌, ◌≤◌, ◌<◌}
use native.Mathlib.Nat.{mul-suc, mul-le-mul_left}
use native.Mathlib.Omega.{arith}
use mathlib.Core.Path.{◌≡◌, refl, sym, ap, ap₂, subst, ◌∙◌}
use mathlib.Core.Bool.{Bool, true, false}
use mathlib.Core.List.{List, [], ◌++◌}
use lib.Dec.{T, eqb, ltb}
use borrow.Author.Tests.{eqb-true, eqb-false, ltb-true, ltb-false}
use borrow.Rule.Slice.PartMut.{put_mid, post_of, same_len_mid, mid_len, take_put, drop_put}
use lib.ListN.{length, get_or, set, take, drop, length-set, replicate, length-replicate, get_or-replicate}
use lib.Seq.{length-take-le, take_at, drop_at, take-take, drop-drop, get_or-take, get_or-drop, get_or-set_same, get_or-set_other}
use Rattle.model.specs.Image.{gates, gate_parameters, gate_arguments}
use Rattle.model.specs.Accepted.{Accepted}
use Rattle.model.specs.Claims.{differ}
use Rattle.model.specs.Run.{Answer, play, output}
use Rattle.model.specs.Playing.{OutputState, room, Plays}
use Rattle.model.specs.Steps.{Step}
use Rattle.model.proofs.ListLaws.{drop_take}
use Rattle.record_writer.specs.declared.Position.{Position}
use Rattle.value.specs.declared.Value.{Value}
use Rattle.statement.specs.declared.Call.{Call}
use Rattle.model.proofs.ReadBack.{words_enough}
use Rattle.model.specs.All.{All}
use Rattle.copy.specs.BodyRecord.{BodyRecord}
use Rattle.copy.proofs.BodyRecords.{openings_bodily, bodily_plays}
use Rattle.copy.proofs.BodyKeptLaws.{kept_records, kept_later, kept_new}
use Rattle.kept_body.specs.Slot.{slot_width, slot_of, WideEnough, slot_levels, slot_qubits, slot_angles, may_be_copied, SlotStands, SlotFilled}
use Rattle.kept_body.specs.KeptBodies.{SlotKept, BodiesKept, BodyPut, BodyRun}
use Rattle.kept_body.proofs.SlotLaws.{told, written_distinct}

-- ---- slots of a table in which one was put anew

-- a slot ends where the next one begins
pub slot_ends : (w h g : ℕ) → h < g → w * h + w ≤ w * g
slot_ends w h g l = omega (arith, mul-suc w h, mul-le-mul_left w l)

-- the table with the slot of gate g put anew, as the code lends it
abbrev pub put_into : List ℕ → List ℕ → ℕ → List ℕ
put_into table slot g = put_mid (1 + slot_width table * g) (1 + slot_width table * g + slot_width table - (1 + slot_width table * g)) table slot

module _ (table slot : List ℕ) (g : ℕ) (whole : length slot ≡ slot_width table) (room : 1 + slot_width table * g + slot_width table ≤ length table) where
  abbrev w : ℕ
  w = slot_width table

  abbrev first : ℕ
  first = 1 + w * g

  abbrev end : ℕ
  end = first + w

  abbrev put : List ℕ
  put = put_into table slot g

  pub width_stays : slot_width put ≡ w
  width_stays = sym (get_or-take first put 0 0 (omega arith)) ∙ ap (λ (t : List ℕ). get_or t 0 0) (take_put first (end - first) table slot (omega arith)) ∙ get_or-take first table 0 0 (omega arith)

  -- a slot of it, by the width that it had
  of_width : (h : ℕ) → slot_of put h ≡ take w (drop (1 + w * h) put)
  of_width h = ap (λ (k : ℕ). take k (drop (1 + k * h) put)) width_stays

  pub slot_put : slot_of put g ≡ slot
  slot_put = of_width g ∙ ap (take w) (drop_at (take first table) (slot ++ post_of first (end - first) table) first (length-take-le first table (omega arith))) ∙ take_at slot (post_of first (end - first) table) w whole

  pub length_put : length put ≡ length table
  length_put = same_len_mid first (end - first) table slot (whole ∙ sym (mid_len first end table (omega arith) ∙ omega arith))

  slot_before : (h : ℕ) → h < g → slot_of put h ≡ slot_of table h
  slot_before h l = of_width h ∙ before put ∙ ap (λ (t : List ℕ). take w (drop (1 + w * h) t)) (take_put first (end - first) table slot (omega arith)) ∙ sym (before table)
    where
      before : (t : List ℕ) → take w (drop (1 + w * h) t) ≡ take w (drop (1 + w * h) (take first t))
      before t = sym (ap (take w) (drop_take (1 + w * h) first t (omega (arith, slot_ends w h g l))) ∙ take-take w (first - (1 + w * h)) (drop (1 + w * h) t) (omega (arith, slot_ends w h g l)))

  slot_after : (h : ℕ) → g < h → slot_of put h ≡ slot_of table h
  slot_after h l = of_width h ∙ behind put ∙ ap (λ (t : List ℕ). take w (drop (1 + w * h - end) t)) (drop_put first end table slot (omega arith) (omega arith) (omega (arith, whole))) ∙ sym (behind table)
    where
      behind : (t : List ℕ) → take w (drop (1 + w * h) t) ≡ take w (drop (1 + w * h - end) (drop end t))
      behind t = let e : 1 + w * h ≡ end + (1 + w * h - end) = omega (arith, slot_ends w g h l) in ap (λ (k : ℕ). take w (drop k t)) e ∙ ap (take w) (sym (drop-drop (1 + w * h - end) end t))

  pub slot_other : (h : ℕ) → ¬ (h ≡ g) → slot_of put h ≡ slot_of table h
  slot_other h n = go (ltb h g) refl
    where
      go : (b : Bool) → ltb h g ≡ b → slot_of put h ≡ slot_of table h
      go true e = slot_before h (ltb-true h g e)
      go false e = slot_after h (let k = ltb-false h g e in omega arith)

-- ---- what is written later leaves what is kept

pub bodies_later : {image table : List ℕ} {ss : List Step} {p q : OutputState} {a : Answer} → Plays ss p q a → BodiesKept image table p.out p.words → BodiesKept image table q.out q.words
bodies_later {image} {table} {ss} {p} {q} w b =
    record { wide = b.wide; room = b.room; each = λ g h k. let s = b.each g h k in record { body = rw w.contents (kept_later s.body (output (play (room p) ss)) q.words (omega (arith, w.position))); distinct = s.distinct } }

-- ---- a body that was run is put into its slot

module _ {image : List ℕ} {call : Call} {angles : List Value} {qubits out out' : List ℕ} {at next : Position} (r : BodyRun image call angles qubits out at next out') where
  slot_kept : {slot : List ℕ} → SlotFilled slot call.site.levels_left at.words (next.words - at.words) (next.records - at.records) call angles qubits → T (may_be_copied (next.words - at.words) (take call.arguments qubits)) → SlotKept image slot out' next.words call.gate
  slot_kept {slot} f d =
      let c = r.called in
      let vs : slot_angles slot (gate_parameters image call.gate) ≡ take call.parameters angles = ap (slot_angles slot) (sym c.parameters_are) ∙ f.angles_are in
      let qs : slot_qubits slot (gate_parameters image call.gate) (gate_arguments image call.gate) ≡ take call.arguments qubits = ap₂ (slot_qubits slot) (sym c.parameters_are) (sym c.arguments_are) ∙ f.qubits_are in
      record {
        body = rw (vs, qs, f.levels_are, f.start_is, f.words_are, f.records_are) (kept_new image call.gate call.site.levels_left [] (take call.parameters angles) (take call.arguments qubits) r.wrote.plays r.inside);
        distinct = λ n. subst (λ (l : List ℕ). T (differ l)) (sym qs) (written_distinct _ _ d (λ e. n (f.words_are ∙ e)));
      }

  pub bodies_put : (table slot : List ℕ) → length slot ≡ slot_width table → 1 + slot_width table * call.gate + slot_width table ≤ length table → BodiesKept image table out' next.words
      → SlotFilled slot call.site.levels_left at.words (next.words - at.words) (next.records - at.records) call angles qubits → T (may_be_copied (next.words - at.words) (take call.arguments qubits))
      → BodiesKept image (put_into table slot call.gate) out' next.words
  bodies_put table slot whole room b f d =
      let width = width_stays table slot call.gate whole room in
      record {
        wide = subst (WideEnough image) (sym width) b.wide;
        room = rw (width, length_put table slot call.gate whole room) b.room;
        each = λ g h k. go g h k (eqb g call.gate) refl;
      }
    where
      go : (g : ℕ) → g < gates image → ¬ (slot_levels (slot_of (put_into table slot call.gate) g) ≡ 0) → (c : Bool) → eqb g call.gate ≡ c → SlotKept image (slot_of (put_into table slot call.gate) g) out' next.words g
      go g h k true e =
          let same = eqb-true g call.gate e in
          subst (λ (l : List ℕ). SlotKept image l out' next.words g) (sym (ap (slot_of (put_into table slot call.gate)) same ∙ slot_put table slot call.gate whole room)) (rw same (slot_kept f d))
      go g h k false e =
          let other = slot_other table slot call.gate whole room g (eqb-false g call.gate e) in
          subst (λ (l : List ℕ). SlotKept image l out' next.words g) (sym other) (b.each g h (λ z. k (ap slot_levels other ∙ z)))

-- ---- what keeping a body changes

module _ {table : List ℕ} {angles : List Value} {qubits : List ℕ} {call : Call} {at next : Position} {r : Bool} (e : r ≡ may_be_copied (next.words - at.words) (take call.arguments qubits)) where
  -- a body that may be copied is put into the slot of its gate
  pub body_put : r ≡ true → (slot : List ℕ) → length slot ≡ slot_width table → 1 + slot_width table * call.gate + slot_width table ≤ length table
      → SlotFilled slot call.site.levels_left at.words (next.words - at.words) (next.records - at.records) call angles qubits → BodyPut table call angles qubits at next (put_into table slot call.gate)
  body_put t slot whole room f =
      record {
        filled = λ _. subst (λ (l : List ℕ). SlotFilled l call.site.levels_left at.words (next.words - at.words) (next.records - at.records) call angles qubits) (sym (slot_put table slot call.gate whole room)) f;
        untouched = λ n. absurd (subst T n (told e t));
        others = slot_other table slot call.gate whole room;
      }

-- ---- what a slot tells of stands in the output

pub kept_each : {image : List ℕ} (slot : List ℕ) {out : List ℕ} {at g : ℕ} → Accepted image → g < gates image → (s : SlotKept image slot out at g) → All BodyRecord (kept_records s.body)
kept_each {image} slot {g = g} acc h s =
    let k = s.body in
    let n = gate_parameters image g in
    bodily_plays k.ahead ((openings_bodily image acc (slot_levels slot)).opens k.trace g (slot_angles slot n) (slot_qubits slot n (gate_arguments image g)) h)

pub slot_stands : {image : List ℕ} (slot : List ℕ) {out : List ℕ} {at g : ℕ} → Accepted image → g < gates image → SlotKept image slot out at g → SlotStands slot out at
unfolding output
slot_stands {image} slot acc h s =
    let k = s.body in
    record {
      stands = record { records = kept_records k; each = kept_each slot acc h s; stands = k.stands };
      before = k.before;
      fewer = omega (arith, k.counted, k.long, words_enough (kept_records k));
    }

-- ---- no body is kept at first

pub no_bodies : (image out : List ℕ) (n at width : ℕ) → WideEnough image width → 1 + width * gates image ≤ n → BodiesKept image (set (replicate n 0) 0 width) out at
no_bodies image out n at width h fits =
    let table : List ℕ = set (replicate n 0) 0 width in
    let is : slot_width table ≡ width = get_or-set_same (replicate n 0) 0 width 0 (omega (arith, length-replicate {A = ℕ} n 0)) in
    record {
      wide = subst (WideEnough image) (sym is) h;
      room = rw is (omega (arith, length-set (replicate n 0) 0 width, length-replicate {A = ℕ} n 0));
      each = λ g l k. absurd (k (empty g l is));
    }
  where
    empty : (g : ℕ) → g < gates image → slot_width (set (replicate n 0) 0 width) ≡ width → slot_levels (slot_of (set (replicate n 0) 0 width) g) ≡ 0
    empty g l is =
        ap (λ (w : ℕ). get_or (take w (drop (1 + w * g) (set (replicate n 0) 0 width))) 0 0) is
        ∙ get_or-take width (drop (1 + width * g) (set (replicate n 0) 0 width)) 0 0 (omega (arith, h.each g l))
        ∙ get_or-drop (1 + width * g) (set (replicate n 0) 0 width) 0 0
        ∙ get_or-set_other (replicate n 0) 0 (1 + width * g + 0) width 0 (λ e. omega arith)
        ∙ get_or-replicate n (1 + width * g + 0) 0 0 (omega (arith, slot_ends width g (gates image) l, h.each g l))
