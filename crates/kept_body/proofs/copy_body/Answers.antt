-- A body that is kept is copied where each test was passed; where one was not, nothing was written.
use Prim.Native.Nat.{ℕ, ◌+◌, ◌-◌, ◌*◌, ◌≤◌}
use native.Mathlib.Omega.{arith}
use mathlib.Core.Path.{◌≡◌, sym, ◌∙◌}
use mathlib.Core.List.{List}
use mathlib.Core.Bool.{Bool}
use lib.Dec.{T}
use lib.ListN.{length}
use Rattle.kept_body.specs.Slot.{slot_of, slot_words, same_body, SlotStands}
use Rattle.kept_body.specs.KeptBodies.{copies}
use Rattle.kept_body.proofs.SlotLaws.{told, body_kept}
use Rattle.kept_body.proofs.BodyCopiedLaws.{lent_slot, lent_slot_lem, slot_wide, room_left, stands_in_slot, kept_in_slot, written_few, silent_copied, records_copied, Asked, answer, of_table, another_body, silent_copies, distinct_copies, not_copied, was_copied}
use Rattle.kept_body.proofs.copy_body.Goals as goal
use Rattle.kept_body.proofs.copy_body.Goals.{Else-is_full, Else-not-is_same_body, Start}

-- the slot of the call's gate
abbrev slot_in : Start → List ℕ
slot_in s = lent_slot s.args.kept_bodies.now s.args.call.gate

slot_is : (s : Start) → slot_in s ≡ slot_of s.args.kept_bodies.now s.args.call.gate
slot_is s = lent_slot_lem s.args.kept_bodies.now s.args.call.gate

-- what is asked of it
abbrev asked : Start → Asked
asked s = record { slot = slot_in s; out = s.args.out.now; call = s.args.call; angles = s.args.frame.now.angles; qubits = s.args.frame.now.qubits; at = s.args.at }

in_table : (s : Start) {b : Bool} → b ≡ answer (asked s) → b ≡ copies (slot_of s.args.kept_bodies.now s.args.call.gate) s.args.out.now s.args.call s.args.frame.now.angles s.args.frame.now.qubits s.args.at
in_table s h = of_table (asked s) s.args.kept_bodies.now (slot_is s) h

same : (k : Else-not-is_same_body) → (T (same_body (lent_slot k.args.kept_bodies.now k.args.call.gate) k.args.call k.args.frame.now.angles))
same k = told k.is_same_body.ensures k.if-not-is_same_body.false

stands : (k : Else-not-is_same_body) → (SlotStands (lent_slot k.args.kept_bodies.now k.args.call.gate) k.args.out.now k.args.at.words)
stands k = stands_in_slot k.requires (lent_slot k.args.kept_bodies.now k.args.call.gate) (lent_slot_lem k.args.kept_bodies.now k.args.call.gate) (body_kept (lent_slot k.args.kept_bodies.now k.args.call.gate) k.args.call k.args.frame.now.angles (same k))

fits : (k : Else-is_full) → (k.args.at.words + slot_words (lent_slot k.args.kept_bodies.now k.args.call.gate) ≤ length k.args.out.now)
fits k = room_left k.args.out.now (lent_slot k.args.kept_bodies.now k.args.call.gate) k.args.at k.is_full.ensures k.if-is_full.false

pub returns-then-not-is_same_body : goal.returns-then-not-is_same_body
returns-then-not-is_same_body c = (in_table (goal.at.returns-then-not-is_same_body c).Start (another_body (asked (goal.at.returns-then-not-is_same_body c).Start) c.is_same_body.ensures c.if-not-is_same_body.true), λ image _ _. not_copied)

pub returns-then-words-eq0 : goal.returns-then-words-eq0
returns-then-words-eq0 c = let slot = lent_slot c.args.kept_bodies.now c.args.call.gate in (
  in_table (goal.at.returns-then-words-eq0 c).Start (silent_copies (asked (goal.at.returns-then-words-eq0 c).Start) c.is_same_body.ensures c.if-not-is_same_body.false c.if-words-eq0.true c.requires.in_output.inside),
  λ image called b. was_copied (silent_copied called slot c.args.frame.now.angles (omega arith) (same (goal.at.returns-then-words-eq0 c).Else-not-is_same_body) c.args.at (slot_wide c.requires.slot (lent_slot_lem c.args.kept_bodies.now c.args.call.gate)) (kept_in_slot c.requires slot (lent_slot_lem c.args.kept_bodies.now c.args.call.gate) (body_kept slot c.args.call c.args.frame.now.angles (same (goal.at.returns-then-words-eq0 c).Else-not-is_same_body)) called b) _ c.if-words-eq0.true c.requires.in_output.inside),
)

pub overflow_add-result-2 : goal.overflow_add-result-2
overflow_add-result-2 c = record { fits = omega (arith, written_few _ c.copy_records-written.ensures (omega (arith, (stands (goal.at.overflow_add-result-2 c).Else-not-is_same_body).before, fits (goal.at.overflow_add-result-2 c).Else-is_full)), fits (goal.at.overflow_add-result-2 c).Else-is_full) }

pub returns : goal.returns
returns c = let slot = lent_slot c.args.kept_bodies.now c.args.call.gate in
    let wide = slot_wide c.requires.slot (lent_slot_lem c.args.kept_bodies.now c.args.call.gate) in
    let some_words = c.if-words-eq0.false in
    let distinct = c.are_distinct.ensures in
    let apart = c.if-not-are_distinct.false in
    let tested = distinct_copies (asked (goal.at.returns c).Start) c.is_same_body.ensures c.if-not-is_same_body.false some_words (fits (goal.at.returns c).Else-is_full) distinct in (
      in_table (goal.at.returns c).Start (sym apart ∙ tested),
      λ image called b. was_copied (records_copied called slot c.args.frame.now.angles (omega arith) (same (goal.at.returns c).Else-not-is_same_body) c.args.at wide (kept_in_slot c.requires slot (lent_slot_lem c.args.kept_bodies.now c.args.call.gate) (body_kept slot c.args.call c.args.frame.now.angles (same (goal.at.returns c).Else-not-is_same_body)) called b) _ (4 + 6 * c.args.call.parameters + c.args.call.arguments - (4 + 6 * c.args.call.parameters)) c.args.call.arguments some_words (omega arith) (omega arith) (told distinct apart) c.requires.slot.given.sixteen (fits (goal.at.returns c).Else-is_full) c.copy_records-written.ensures),
    )
