-- A body that is copied: to copy its records, or to do nothing where it wrote nothing, is to play its steps.
use Prim.Native.Nat.{ℕ, ◌+◌, ◌-◌, ◌*◌, ◌≤◌, ◌<◌}
use native.Mathlib.Omega.{arith}
use mathlib.Core.Path.{◌≡◌, refl, sym, ap, ap₂, subst, ◌∙◌}
use mathlib.Core.Logic.{◌⊎◌, inl, inr}
use mathlib.Core.List.{List, [], flat_map}
use mathlib.Core.Bool.{Bool, true, false}
use lib.Dec.{T, ltb}
use borrow.Author.Tests.{ltb-false, eq-eqb, ne_eqb, le-leb}
use lib.ListN.{length, take, drop, length-drop}
use lib.Seq.{sets, length-take-le}
use Rattle.value.specs.declared.Value.{Value}
use Rattle.model.specs.Limits.{most_arguments}
use Rattle.model.specs.Image.{gate_parameters, gate_arguments}
use Rattle.model.specs.Claims.{differ}
use Rattle.model.specs.Records.{encode}
use Rattle.model.specs.Run.{done, output}
use Rattle.model.specs.Playing.{OutputState, Plays}
use Rattle.model.proofs.Accepted.{few_parameters, few_arguments}
use Rattle.record_writer.specs.declared.Position.{Position}
use Rattle.record_writer.specs.Promise.{state_at, WroteStepsTo}
use Rattle.statement.specs.declared.Call.{Call}
use Rattle.copy.specs.Renaming.{renaming}
use Rattle.copy.specs.CopiedRecords.{RecordsCopied}
use Rattle.copy.specs.BodyKept.{body_steps}
use Rattle.copy.proofs.Renamed.{Levels}
use Rattle.copy.proofs.BodyKeptLaws.{distinct_formals, renamed_shorter, kept_records, copied_place, kept_copies, kept_silent}
use Rattle.copy.proofs.CopiedRecordsLaws.{copied_once}
use Rattle.std.specs.Prelude.{Some, None}
use Rattle.kept_body.specs.Slot.{slot_need, slot_width, slot_of, slot_levels, slot_start, slot_words, slot_records, slot_qubits, slot_angles, same_body, SlotStands}
use Rattle.kept_body.specs.KeptBodies.{SlotKept, BodiesKept, CalledGate, called_steps, SlotGiven, CopyGiven, copies, BodyCopied}
use Rattle.kept_body.proofs.SlotLaws.{OpenedAlike, body_alike, body_angles, angles_same}
use Rattle.kept_body.proofs.KeptBodiesLaws.{kept_each}

module _ {image : List ℕ} {call : Call} (c : CalledGate image call) where
  few_values : call.parameters ≤ 16
  few_values = omega (arith, c.parameters_are, few_parameters c.accepted call.gate c.listed)

  few_qubits : call.arguments ≤ 16
  few_qubits = omega (arith, c.arguments_are, few_arguments c.accepted call.gate c.listed)

  module _ (slot : List ℕ) (angles : List Value) (sixteen-angles : length angles ≡ 16) (s : T (same_body slot call angles)) where
    values_are : slot_angles slot (gate_parameters image call.gate) ≡ take call.parameters angles
    values_are = ap (slot_angles slot) (sym c.parameters_are) ∙ angles_same slot angles call.parameters (omega (arith, few_values, sixteen-angles)) (body_angles slot call angles s)

    module _ {out : List ℕ} (at : Position) (wide : slot_need call.parameters call.arguments ≤ length slot) (k : SlotKept image slot out at.words call.gate) (qubits : List ℕ) where
      abbrev old : List ℕ
      old = slot_qubits slot (gate_parameters image call.gate) (gate_arguments image call.gate)

      old_qubits : length old ≡ gate_arguments image call.gate
      old_qubits = length-take-le (gate_arguments image call.gate) (drop (4 + 6 * gate_parameters image call.gate) slot) (omega (arith, length-drop (4 + 6 * gate_parameters image call.gate) slot, wide, c.arguments_are, c.parameters_are))

      -- a body that wrote nothing
      pub silent_copied : slot_words slot ≡ 0 → at.words ≤ length out → WroteStepsTo (called_steps image call angles qubits) out at at out
      silent_copied e inside =
          record {
            plays = subst (λ (vs : List Value). Plays (body_steps image call.site.levels_left [] call.gate vs (take call.arguments qubits)) (state_at out at) (state_at out at) done) values_are
                (kept_silent c.accepted (state_at out at) call.gate (slot_levels slot) call.site.levels_left (slot_angles slot (gate_parameters image call.gate)) old (take call.arguments qubits) [] k.body e c.listed old_qubits (levels (body_alike slot call angles s)) inside);
            level = refl;
          }
        where
          levels : OpenedAlike call.gate (slot_levels slot) call.site.levels_left (slot_words slot) → (slot_levels slot ≤ call.site.levels_left) ⊎ ((call.gate < slot_levels slot) × (call.gate < call.site.levels_left))
          levels (inl d) = inl (omega arith)
          levels (inr (inl d)) = inl d.1
          levels (inr (inr d)) = inr d

      -- a body whose records were copied
      pub records_copied : (n m : ℕ) {written : ℕ} {out' : List ℕ} → ¬ (slot_words slot ≡ 0) → n ≡ call.arguments → m ≡ call.arguments → T (differ (take call.arguments qubits)) → length qubits ≡ most_arguments
          → at.words + slot_words slot ≤ length out → RecordsCopied (renaming (take n (drop (4 + 6 * call.parameters) slot)) (take m qubits)) out (slot_start slot) (slot_words slot) at.words written out'
          → WroteStepsTo (called_steps image call angles qubits) out at (record { records = at.records + slot_records slot; words = at.words + written; trace = at.trace }) out'
      unfolding output
      records_copied n m {written} {out'} some n-is m-is d sixteen fits r =
          let new : List ℕ = take call.arguments qubits in
          let e : take n (drop (4 + 6 * call.parameters) slot) ≡ old = ap (λ (k : ℕ). take k (drop (4 + 6 * call.parameters) slot)) n-is ∙ ap₂ (slot_qubits slot) c.parameters_are c.arguments_are in
          let f : take m qubits ≡ new = ap (λ (k : ℕ). take k qubits) m-is in
          let many : length new ≡ gate_arguments image call.gate = length-take-le call.arguments qubits (omega (arith, few_qubits, sixteen)) ∙ c.arguments_are in
          let v : RecordsCopied (renaming old new) out (slot_start slot) (slot_words slot) at.words written out' = subst (λ (g : ℕ → ℕ). RecordsCopied g out (slot_start slot) (slot_words slot) at.words written out') (ap₂ renaming e f) r in
          let same = copied_once (renaming old new) v.each (kept_each slot c.accepted c.listed k) (sym v.stands ∙ k.body.stands) in
          let formals = distinct_formals (gate_arguments image call.gate) old new old_qubits many (k.distinct some) d in
          let place : copied_place (renaming old new) (kept_records k.body) (state_at out at) ≡ state_at out' (record { records = at.records + slot_records slot; words = at.words + written; trace = at.trace }) =
          ap₂ (λ (o : List ℕ) (w : ℕ). record { out = o; words = at.words + w; records = at.records + length (kept_records k.body) }) (sym (v.contents ∙ ap (sets out at.words) same)) (sym (v.counted ∙ ap length same))
          ∙ ap (λ (m : ℕ). record { out = out'; words = at.words + written; records = at.records + m }) (sym k.body.counted) in
          record {
            plays = subst (λ (vs : List Value). Plays (body_steps image call.site.levels_left [] call.gate vs new) (state_at out at) (state_at out' (record { records = at.records + slot_records slot; words = at.words + written; trace = at.trace })) done) values_are
                (subst (λ (p : OutputState). Plays (body_steps image call.site.levels_left [] call.gate (slot_angles slot (gate_parameters image call.gate)) new) (state_at out at) p done) place
                (kept_copies c.accepted (renaming old new) (state_at out at) call.gate (slot_levels slot) call.site.levels_left (slot_angles slot (gate_parameters image call.gate)) old new [] k.body c.listed (levels (body_alike slot call angles s) (renaming old new) some) formals fits));
            level = refl;
          }
        where
          levels : OpenedAlike call.gate (slot_levels slot) call.site.levels_left (slot_words slot) → (r : ℕ → ℕ) → ¬ (slot_words slot ≡ 0) → Levels r call.gate (slot_levels slot) call.site.levels_left
          levels (inl d) r n = inl d
          levels (inr (inl d)) r n = absurd (n d.0)
          levels (inr (inr d)) r n = inr d

-- ---- the slot of a call, as the code lends it

abbrev pub lent_slot : List ℕ → ℕ → List ℕ
lent_slot table g = take (1 + slot_width table * g + slot_width table - (1 + slot_width table * g)) (drop (1 + slot_width table * g) table)

pub lent_slot_lem : (table : List ℕ) (g : ℕ) → lent_slot table g ≡ slot_of table g
lent_slot_lem table g = let e : 1 + slot_width table * g + slot_width table - (1 + slot_width table * g) ≡ slot_width table = omega arith in ap (λ (n : ℕ). take n (drop (1 + slot_width table * g) table)) e

pub slot_whole : {table slot qubits : List ℕ} {call : Call} → SlotGiven table call qubits → slot ≡ slot_of table call.gate → length slot ≡ slot_width table
slot_whole {table} {call = call} g e = ap length e ∙ length-take-le (slot_width table) (drop (1 + slot_width table * call.gate) table) (omega (arith, length-drop (1 + slot_width table * call.gate) table, g.room))

pub slot_wide : {table slot qubits : List ℕ} {call : Call} → SlotGiven table call qubits → slot ≡ slot_of table call.gate → slot_need call.parameters call.arguments ≤ length slot
slot_wide g e = omega (arith, slot_whole g e, g.wide)

-- the test for room
pub room_left : (out slot : List ℕ) (at : Position) {full : Bool} → full ≡ ltb (length out) (at.words + slot_words slot) → full ≡ false → at.words + slot_words slot ≤ length out
room_left out slot at e f = ltb-false (length out) (at.words + slot_words slot) (sym e ∙ f)

module _ {table out qubits : List ℕ} {call : Call} {at : Position} (g : CopyGiven table out call qubits at) (slot : List ℕ) (e : slot ≡ slot_of table call.gate) (k : ¬ (slot_levels slot ≡ 0)) where
  pub stands_in_slot : SlotStands slot out at.words
  stands_in_slot = rw e (g.stands (λ z. k (ap slot_levels e ∙ z)))

  pub kept_in_slot : {image : List ℕ} → CalledGate image call → BodiesKept image table out at.words → SlotKept image slot out at.words call.gate
  kept_in_slot {image} c b = subst (λ (l : List ℕ). SlotKept image l out at.words call.gate) (sym e) (b.each call.gate c.listed (λ z. k (ap slot_levels e ∙ z)))

-- a copy is no longer than what is copied
pub written_few : (r : ℕ → ℕ) {out : List ℕ} {from words to written : ℕ} {out' : List ℕ} → RecordsCopied r out from words to written out' → from + words ≤ length out → written ≤ words
written_few r {out} {from} {words} v h =
    let long : length (flat_map encode v.records) ≡ words = ap length (sym v.stands) ∙ length-take-le words (drop from out) (omega (arith, length-drop from out)) in
    omega (arith, v.counted, renamed_shorter r v.records, long)

-- ---- whether a body is copied: one law for each answer of the code

-- what is asked of a slot
pub record Asked : Type 0 where
  pub slot : List ℕ
  pub out : List ℕ
  pub call : Call
  pub angles : List Value
  pub qubits : List ℕ
  pub at : Position

abbrev pub answer : Asked → Bool
answer a = copies a.slot a.out a.call a.angles a.qubits a.at

-- what is answered for the slot as the code lends it is answered for the table's
pub of_table : (a : Asked) (table : List ℕ) {b : Bool} → a.slot ≡ slot_of table a.call.gate → b ≡ answer a → b ≡ copies (slot_of table a.call.gate) a.out a.call a.angles a.qubits a.at
of_table a table {b} e h = subst (λ (l : List ℕ). b ≡ copies l a.out a.call a.angles a.qubits a.at) e h

module _ (a : Asked) {same : Bool} (e : same ≡ same_body a.slot a.call a.angles) where
  abbrev end : ℕ
  end = a.at.words + slot_words a.slot

  pub another_body : same ≡ false → false ≡ answer a
  another_body f = rw (sym e ∙ f) refl

  module _ (t : same ≡ true) where
    pub silent_copies : slot_words a.slot ≡ 0 → a.at.words ≤ length a.out → true ≡ answer a
    silent_copies z h = rw (sym e ∙ t, le-leb end (length a.out) (omega arith), eq-eqb (slot_words a.slot) 0 z) refl

    pub distinct_copies : ¬ (slot_words a.slot ≡ 0) → end ≤ length a.out → {distinct : Bool} → distinct ≡ differ (take a.call.arguments a.qubits) → distinct ≡ answer a
    distinct_copies n fits d = rw (sym e ∙ t, le-leb end (length a.out) fits, ne_eqb (slot_words a.slot) 0 n) d

-- ---- the answer

module _ {image : List ℕ} {call : Call} {angles : List Value} {qubits out : List ℕ} {at : Position} where
  pub not_copied : BodyCopied image call angles qubits out at None out
  not_copied = record { wrote = λ next e. absurd (let z : ◌≡◌ {A = ℕ} 0 1 = cc in omega arith); untouched = λ e. refl }

  pub was_copied : {next : Position} {out' : List ℕ} → WroteStepsTo (called_steps image call angles qubits) out at next out' → BodyCopied image call angles qubits out at (Some next) out'
  was_copied {next} {out'} w = record { wrote = λ p e. subst (λ (q : Position). WroteStepsTo (called_steps image call angles qubits) out at q out') (which e) w; untouched = λ e. absurd (let z : ◌≡◌ {A = ℕ} 0 1 = cc in omega arith) }
    where
      which : {p : Position} → Some next ≡ Some p → next ≡ p
      which e = cc
