-- The parts of the check, one after another: what is wrong first is what the check finds.
use Prim.Native.Nat.{ℕ, ◌+◌}
use native.Mathlib.Nat.{add-zero}
use native.Mathlib.Omega.{arith}
use mathlib.Core.Path.{◌≡◌, refl, sym, ◌∙◌}
use mathlib.Core.Bool.{true, false}
use mathlib.Core.List.{List}
use Rattle.model.specs.Lists.{range}
use Rattle.model.proofs.All.{range-All}
use Rattle.model.proofs.Accepted.{passes, none_bad}
use Rattle.model.specs.Image.{word, quantum_registers, classical_registers, quantum_register_at, classical_register_at, quantum_size, classical_size, gates}
use Rattle.model.specs.Check.{Flaw, fine, bad, or_else, first_bad, register_flaw, registers, contents_ok, gate_flaw, gate_entries, statement_entries, check}
use Rattle.image.specs.declared.CheckRefusal.{CheckRefusal}
use Rattle.image.specs.declared.CheckRefusal.TheVariants as refusal
use Rattle.image.specs.Answer.{refusal_flaw, number_in, place_in}
use Rattle.image.specs.declared.Layout.{Layout}
use Rattle.image.specs.Layout.{LayoutOf, GatesAccepted}
use Rattle.image_check.specs.Answer.{entries_flaw}

-- a refusal is a flaw
pub refusal_bad : (r : CheckRefusal) → refusal_flaw r ≡ bad (number_in (refusal_flaw r)) (place_in (refusal_flaw r))
refusal_bad refusal.Contents = refl
refusal_bad (refusal.Register p) = refl
refusal_bad (refusal.GateEntry p) = refl
refusal_bad (refusal.Form p) = refl
refusal_bad (refusal.Argument p) = refl
refusal_bad (refusal.Expression p) = refl
refusal_bad (refusal.Sizes p) = refl
refusal_bad (refusal.Upward p) = refl

-- the first part that finds a flaw decides
pub flaw_first : (r : CheckRefusal) (v w : Flaw) → refusal_flaw r ≡ v → refusal_flaw r ≡ or_else v w
flaw_first r v w e = e ∙ stands v (sym e ∙ refusal_bad r)
  where
    stands : {n p : ℕ} (v : Flaw) → v ≡ bad n p → v ≡ or_else v w
    stands fine d = cc
    stands (bad n p) d = refl

pub flaw_next : (v w : Flaw) → fine ≡ v → w ≡ or_else v w
flaw_next v w e = rw (← e) refl

-- the registers, as the code reads them
module _ (image : List ℕ) where
  abbrev pub quantum_part : Flaw
  quantum_part = first_bad (register_flaw (quantum_size image)) (quantum_register_at image) (range 0 (quantum_registers image))

  abbrev pub classical_part : Flaw
  classical_part = first_bad (register_flaw (classical_size image)) (classical_register_at image) (range 0 (classical_registers image))

  module _ {l : Layout} (laid : LayoutOf image l) (at : ℕ) {v : Flaw} where
    pub quantum_part_lem : at ≡ quantum_register_at image 0 → v ≡ first_bad (register_flaw (λ i. word image (at + i))) (λ i. at + i) (range 0 l.quantum_registers) → v ≡ quantum_part
    quantum_part_lem e h = h ∙ rw (e, laid.quantum_registers_is) refl

    pub classical_part_lem : at ≡ classical_register_at image 0 → v ≡ first_bad (register_flaw (λ i. word image (at + i))) (λ i. at + i) (range 0 l.classical_registers) → v ≡ classical_part
    classical_part_lem e h = h ∙ rw (e ∙ add-zero (quantum_register_at image (quantum_registers image)), laid.classical_registers_is) refl

  -- the four parts in their turn
  pub in_turn : or_else quantum_part (or_else classical_part (or_else (gate_entries image) (statement_entries image))) ≡ entries_flaw image
  unfolding registers
  in_turn = grouped quantum_part classical_part (or_else (gate_entries image) (statement_entries image))
    where
      grouped : (a b c : Flaw) → or_else a (or_else b c) ≡ or_else (or_else a b) c
      grouped fine b c = refl
      grouped (bad n p) b c = refl

-- without a bad gate entry every one is well formed
pub gated : (image : List ℕ) → gate_entries image ≡ fine → GatesAccepted image
unfolding gate_entries gate_flaw
gated image e = record { each = λ g h. passes 0 _ (range-All {P = λ g. gate_flaw image g ≡ 0} 0 (gates image) g (none_bad _ _ _ e) (omega arith) (omega arith)) tt }

-- the check by its contents
pub check_contents : (image : List ℕ) → contents_ok image ≡ false → bad 1 0 ≡ check image
unfolding check
check_contents image e = sym (rw e refl)

pub check_entries : (image words : List ℕ) → (contents_ok words ≡ true) × (image ≡ words) → entries_flaw image ≡ check words
unfolding check
check_entries image words read = rw (read.1, read.0) refl
