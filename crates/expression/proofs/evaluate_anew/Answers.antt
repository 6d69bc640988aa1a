-- A constant is read back, a parameter alone is read from the frame, and anything else is worked out entry by entry.
use native.Mathlib.Omega.{arith}
use mathlib.Core.Path.{sym, ap, ◌∙◌}
use Rattle.image.specs.Entries.{as_expr}
use Rattle.expression.proofs.EntryLaws.{inside, facts, worked_out, over_variable}
use Rattle.expression.proofs.evaluate_anew.Goals as goal

pub offset_bounds-kept_values-e : goal.offset_bounds-kept_values-e
offset_bounds-kept_values-e c = let h = inside c.args.image.now.words.now c.args.e c.requires.1 in record { fits = omega arith }

pub bounds : goal.bounds
bounds c = let h = inside c.args.image.now.words.now c.args.e c.requires.1 in omega (arith, c.requires.0.constants.room)

pub returns-in-Constant : goal.returns-in-Constant
returns-in-Constant c = let h = inside c.args.image.now.words.now c.args.e c.requires.1 in
    (c.requires.0.constants.each c.args.e h _ c.in-Constant.is c.args.angles.now, c.requires.0.constants)

pub expression-requires : goal.expression-requires
expression-requires c = let h = inside c.args.image.now.words.now c.args.e c.requires.1 in omega arith

pub offset_bounds-angles-i : goal.offset_bounds-angles-i
offset_bounds-angles-i c = let h = facts c.args.image.now.words.now c.args.e c.requires.1 (ap as_expr (sym c.in-Some-Var.field-0-is) ∙ c.in-Some-Var.ensures) in record { fits = omega (arith, h) }

pub bounds-angles-i : goal.bounds-angles-i
bounds-angles-i c = facts c.args.image.now.words.now c.args.e c.requires.1 (ap as_expr (sym c.in-Some-Var.field-0-is) ∙ c.in-Some-Var.ensures)

pub returns-in-Some-Var : goal.returns-in-Some-Var
returns-in-Some-Var c = let a = c.args in
    let read = ap as_expr (sym c.in-Some-Var.field-0-is) ∙ c.in-Some-Var.ensures in
    (worked_out a.image.now.words.now a.e c.requires.1 read a.angles.now (over_variable _ _ _ _ c.requires.0.sound (facts a.image.now.words.now a.e c.requires.1 read)), c.requires.0.constants)
