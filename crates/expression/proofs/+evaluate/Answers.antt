-- An expression's value is read back if it is known, and is worked out of its operands' values and kept if it is not.
use Prim.Native.Nat.{ℕ}
use native.Mathlib.Omega.{arith}
use mathlib.Core.Path.{◌≡◌, sym, ap, ◌∙◌}
use mathlib.Core.Bool.{Bool}
use mathlib.Core.List.{List}
use Rattle.value.specs.declared.Value.{Value}
use Rattle.value.specs.declared.Evaluation.{Evaluation}
use Rattle.image.specs.Entries.{as_expr}
use Rattle.expression.specs.declared.KeptValue.{KeptValue}
use Rattle.expression.specs.KeptValues.{Evaluated}
use Rattle.expression.proofs.EntryLaws.{inside, facts, within, worked_out, over_pi, over_real, over_int, over_variable, over_one, over_two, left_refuses_binary, right_refuses_binary, only_refuses}
use Rattle.expression.proofs.+evaluate.Goals as goal
use Rattle.expression.proofs.+evaluate.Goals.{in-Pi, in-Real, in-Int, in-Var, in-Binary+in-Value+in-Value-right, in-Unary+in-Value-operand}

pub known_value-requires : goal.known_value-requires
known_value-requires t c = let h = inside c.args.image.now.words.now c.args.e c.requires.1 in (omega arith, omega arith)

pub returns-in-Some : goal.returns-in-Some
returns-in-Some t c = let h = inside c.args.image.now.words.now c.args.e c.requires.1 in
    (c.requires.2.each c.args.e h _ (sym c.known_value.ensures ∙ c.in-Some.is), c.requires.2)

pub expression-requires : goal.expression-requires
expression-requires t c = let h = inside c.args.image.now.words.now c.args.e c.requires.1 in omega arith

pub unreachable-requires : goal.unreachable-requires
unreachable-requires t c = facts c.args.image.now.words.now c.args.e c.requires.1 c.in_default-expression.ensures

pub f32_from_bits-requires : goal.f32_from_bits-requires
f32_from_bits-requires t c = facts c.args.image.now.words.now c.args.e c.requires.1 (ap as_expr (sym c.in-Real.is) ∙ c.in-Some-expression.ensures)

pub offset_bounds-angles-i : goal.offset_bounds-angles-i
offset_bounds-angles-i t c = let h = facts c.args.image.now.words.now c.args.e c.requires.1 (ap as_expr (sym c.in-Var.is) ∙ c.in-Some-expression.ensures) in record { fits = omega (arith, h) }

pub bounds-angles-i : goal.bounds-angles-i
bounds-angles-i t c = facts c.args.image.now.words.now c.args.e c.requires.1 (ap as_expr (sym c.in-Var.is) ∙ c.in-Some-expression.ensures)

pub evaluate-left-requires : goal.evaluate-left-requires
evaluate-left-requires t c = let h = facts c.args.image.now.words.now c.args.e c.requires.1 (ap as_expr (sym c.in-Binary.is) ∙ c.in-Some-expression.ensures) in
    (omega (arith, h.0.0, c.decreases), (c.requires.0, h.0.1, c.requires.2))

pub returns-in_default-left : goal.returns-in_default-left
returns-in_default-left t c = let a = c.args in
    (worked_out a.image.now.words.now a.e c.requires.1 (ap as_expr (sym c.in-Binary.is) ∙ c.in-Some-expression.ensures) a.angles.now (left_refuses_binary _ _ _ _ _ c.evaluate-left.ensures.0 c.in_default-left.not-Value), c.evaluate-left.ensures.1)

pub evaluate-right-requires : goal.evaluate-right-requires
evaluate-right-requires t c = let h = facts c.args.image.now.words.now c.args.e c.requires.1 (ap as_expr (sym c.in-Binary.is) ∙ c.in-Some-expression.ensures) in
    (omega (arith, h.1.0, c.decreases), (c.requires.0, h.1.1, c.evaluate-left.ensures.1))

pub returns-in_default-right : goal.returns-in_default-right
returns-in_default-right t c = let a = c.args in
    (worked_out a.image.now.words.now a.e c.requires.1 (ap as_expr (sym c.in-Binary.is) ∙ c.in-Some-expression.ensures) a.angles.now (right_refuses_binary _ _ _ _ _ (rw c.in-Value.is at c.evaluate-left.ensures.0) c.evaluate-right.ensures.0 c.in_default-right.not-Value), c.evaluate-right.ensures.1)

pub evaluate-operand-requires : goal.evaluate-operand-requires
evaluate-operand-requires t c = let h = facts c.args.image.now.words.now c.args.e c.requires.1 (ap as_expr (sym c.in-Unary.is) ∙ c.in-Some-expression.ensures) in
    (omega (arith, h.0, c.decreases), (c.requires.0, h.1, c.requires.2))

pub returns-in_default-operand : goal.returns-in_default-operand
returns-in_default-operand t c = let a = c.args in
    (worked_out a.image.now.words.now a.e c.requires.1 (ap as_expr (sym c.in-Unary.is) ∙ c.in-Some-expression.ensures) a.angles.now (only_refuses _ _ _ _ c.evaluate-operand.ensures.0 c.in_default-operand.not-Value), c.evaluate-operand.ensures.1)

-- The entry stays the one that was read, whichever arm was taken.
pub keep_evaluation-requires : goal.keep_evaluation-requires
keep_evaluation-requires t c = let h = inside c.args.image.now.words.now c.args.e c.requires.1 in
    let same : c.match-entry.entry ≡ c.in-Some-expression.entry = elim c.match-entry.branch [ in-Pi w ↦ w.entry-is | in-Real w ↦ w.entry-is ∙ sym w.in-Real.is | in-Int w ↦ w.entry-is ∙ sym w.in-Int.is | in-Var w ↦ w.entry-is ∙ sym w.in-Var.is | in-Binary+in-Value+in-Value-right w ↦ w.entry-is ∙ sym w.in-Binary.is | in-Unary+in-Value-operand w ↦ w.entry-is ∙ sym w.in-Unary.is ] in
    (omega (arith, c.requires.2.marks), omega (arith, c.requires.2.constants.room), rw same (within c.args.image.now.words.now c.args.e c.requires.1 c.in-Some-expression.ensures _ (omega (arith, c.requires.2.constants.room))))

same_state : {image : List ℕ} {angles : List Value} (e : ℕ) {r r' : Evaluation} {known known' : List Bool} {kept kept' : List KeptValue} → known ≡ known' → kept ≡ kept' → r ≡ r' → Evaluated image angles e r' known' kept' → Evaluated image angles e r known kept
same_state e p q s h = rw (p, q, s) h

pub returns : goal.returns
returns t c = let a = c.args in
    let same : c.match-entry.entry ≡ c.in-Some-expression.entry = elim c.match-entry.branch [ in-Pi w ↦ w.entry-is | in-Real w ↦ w.entry-is ∙ sym w.in-Real.is | in-Int w ↦ w.entry-is ∙ sym w.in-Int.is | in-Var w ↦ w.entry-is ∙ sym w.in-Var.is | in-Binary+in-Value+in-Value-right w ↦ w.entry-is ∙ sym w.in-Binary.is | in-Unary+in-Value-operand w ↦ w.entry-is ∙ sym w.in-Unary.is ] in
    c.keep_evaluation.ensures a.image.now.words.now c.requires.1 (ap as_expr same ∙ c.in-Some-expression.ensures) a.angles.now
    (elim c.match-entry.branch [
      | in-Pi w ↦ same_state a.e w.known-is w.kept_values-is w.r-is (worked_out a.image.now.words.now a.e c.requires.1 (ap as_expr (sym w.in-Pi.is) ∙ c.in-Some-expression.ensures) a.angles.now (over_pi _ _ w.pi.ensures), c.requires.2)
      | in-Real w ↦ same_state a.e w.known-is w.kept_values-is w.r-is (worked_out a.image.now.words.now a.e c.requires.1 (ap as_expr (sym w.in-Real.is) ∙ c.in-Some-expression.ensures) a.angles.now (over_real _ _ _ w.f32_from_bits.ensures w.from_float-r.ensures), c.requires.2)
      | in-Int w ↦ same_state a.e w.known-is w.kept_values-is w.r-is (worked_out a.image.now.words.now a.e c.requires.1 (ap as_expr (sym w.in-Int.is) ∙ c.in-Some-expression.ensures) a.angles.now (over_int _ _ _ w.int-r.ensures), c.requires.2)
      | in-Var w ↦ let read = ap as_expr (sym w.in-Var.is) ∙ c.in-Some-expression.ensures in
          same_state a.e w.known-is w.kept_values-is w.r-is (worked_out a.image.now.words.now a.e c.requires.1 read a.angles.now (over_variable _ _ _ _ c.requires.0 (facts a.image.now.words.now a.e c.requires.1 read)), c.requires.2)
      | in-Binary+in-Value+in-Value-right w ↦ same_state a.e w.known-is w.kept_values-is w.r-is (worked_out a.image.now.words.now a.e c.requires.1 (ap as_expr (sym w.in-Binary.is) ∙ c.in-Some-expression.ensures) a.angles.now (over_two _ _ _ _ _ (rw w.in-Value.is at w.evaluate-left.ensures.0) (rw w.in-Value-right.is at w.evaluate-right.ensures.0) w.binary-r.ensures), w.evaluate-right.ensures.1)
      | in-Unary+in-Value-operand w ↦ same_state a.e w.known-is w.kept_values-is w.r-is (worked_out a.image.now.words.now a.e c.requires.1 (ap as_expr (sym w.in-Unary.is) ∙ c.in-Some-expression.ensures) a.angles.now (over_one _ _ _ _ (rw w.in-Value-operand.is at w.evaluate-operand.ensures.0) w.unary-r.ensures), w.evaluate-operand.ensures.1)
    ])
