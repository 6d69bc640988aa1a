-- An entry is judged by its kind, from its words or from the judgements of its operands.
use native.Mathlib.Omega.{arith}
use Rattle.std.proofs.Common.{◌≡◌, refl, sym, ap, ◌∙◌}
use Rattle.model.specs.Image.{Binary, Unary, expression}
use Rattle.image.specs.Entries.{as_expr, as_binop, as_unop}
use Rattle.image_entries.proofs.JudgementLaws.{words_say, judged_unknown, judged_leaf, judged_used, judged_binary, judged_unary, binary_without, unary_without, over_none}
use Rattle.image_entries.proofs.expressions.judge_expression.Goals as goal
use Rattle.image_entries.proofs.expressions.judge_expression.Goals.{In-Binary, In-Unary}

binary : (c : In-Binary) → Binary (as_binop c.in-Binary.field-0) c.in-Binary.x c.in-Binary.y ≡ expression c.args.image.now.words.now c.args.e
binary c = words_say _ _ _ c.expression_at-at.ensures.is (sym (ap as_expr c.in-Binary.is) ∙ c.in_ok-leaf.ensures)

unary : (c : In-Unary) → Unary (as_unop c.in-Unary.field-0) c.in-Unary.x ≡ expression c.args.image.now.words.now c.args.e
unary c = words_say _ _ _ c.expression_at-at.ensures.is (sym (ap as_expr c.in-Unary.is) ∙ c.in_ok-leaf.ensures)

pub returns-in_err-leaf : goal.returns-in_err-leaf
returns-in_err-leaf c = rw c.from_residual.ensures (judged_unknown _ _ (omega arith) (words_say _ _ _ c.expression_at-at.ensures.is c.in_err-leaf.ensures))

pub returns-in_err-operand-in-Binary : goal.returns-in_err-operand-in-Binary
returns-in_err-operand-in-Binary c =
    rw c.from_residual-in_err-operand-in-Binary.ensures
    (binary_without _ _ (omega arith) c.requires.0 (binary (goal.at.returns-in_err-operand-in-Binary c).In-Binary) (sym c.in_err-operand-in-Binary.was ∙ c.operand.ensures))

pub returns-in_err-operand-in-Binary-2 : goal.returns-in_err-operand-in-Binary-2
returns-in_err-operand-in-Binary-2 c =
    rw c.from_residual-in_err-operand-in-Binary-2.ensures
    (judged_binary _ _ (omega arith) c.requires.0 (binary (goal.at.returns-in_err-operand-in-Binary-2 c).In-Binary) c.operand.ensures (sym c.in_err-operand-in-Binary-2.was ∙ c.operand-in-Binary.ensures) (over_none _))

pub returns-in_ok-operand-in-Binary-2 : goal.returns-in_ok-operand-in-Binary-2
returns-in_ok-operand-in-Binary-2 c =
    judged_binary _ _ (omega arith) c.requires.0 (binary (goal.at.returns-in_ok-operand-in-Binary-2 c).In-Binary) (sym c.in_ok-operand-in-Binary.was ∙ c.operand.ensures) (sym c.in_ok-operand-in-Binary-2.was ∙ c.operand-in-Binary.ensures) c.over.ensures

pub returns-in_err-inner-in-Unary : goal.returns-in_err-inner-in-Unary
returns-in_err-inner-in-Unary c =
    rw c.from_residual-in_err-inner-in-Unary.ensures
    (unary_without _ _ (omega arith) c.requires.0 (unary (goal.at.returns-in_err-inner-in-Unary c).In-Unary) (sym c.in_err-inner-in-Unary.was ∙ c.operand-in-Unary.ensures))

pub returns-then-b-eq0 : goal.returns-then-b-eq0
returns-then-b-eq0 c =
    judged_unary _ _ (omega arith) c.requires.0 (unary (goal.at.returns-then-b-eq0 c).In-Unary) (sym c.in_ok-inner-in-Unary.was ∙ c.operand-in-Unary.ensures) c.expression_at-at.ensures.is refl c.if-b-eq0.true c.over-then-b-eq0.ensures

pub returns-else-b-eq0 : goal.returns-else-b-eq0
returns-else-b-eq0 c = judged_used _ _ (omega arith) (unary (goal.at.returns-else-b-eq0 c).In-Unary) c.expression_at-at.ensures.is refl c.if-b-eq0.false

pub returns-in_default : goal.returns-in_default
returns-in_default c = let d = c.in_default in let at-is = c.expression_at-at.ensures.is in
    judged_leaf _ _ (omega arith) c.in_ok-leaf.leaf (words_say _ _ _ at-is c.in_ok-leaf.ensures) at-is refl refl d.not-Binary d.not-Unary c.judge_leaf.ensures
