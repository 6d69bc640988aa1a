-- An entry without operands has one level and needs as many variables as its word says.
use mathlib.Core.Bool.{◌&&◌}
use lib.Dec.{eqb, ltb}
use borrow.Author.Tests.{lt-ltb, le-ltb, eq-eqb, ne_eqb}
use Rattle.std.proofs.Common.{◌≡◌, refl, inl, inr, ◌∙◌}
use Rattle.image.specs.Entries.{as_expr, as_binop, as_unop}
use Rattle.image_entries.specs.Judging.{words_ok}
use Rattle.model.specs.Image.{Pi, Real, Int, Var}
use Rattle.image_entries.proofs.JudgementLaws.{constant_is, variable_is, no_variable, leaf_second, binary_no_leaf, unary_no_leaf, pi_words, real_words, int_words, var_past, var_words}
use Rattle.image_entries.proofs.expressions.judge_leaf.Goals as goal
use Rattle.image_entries.proofs.expressions.judge_leaf.Goals.{then-a-eq0, else-a-eq0, then-bits-lt-REAL_LIMIT, else-bits-lt-REAL_LIMIT, else-i-lt-MOST_PARAMETERS-via-then-i-lt-MOST_PARAMETERS+else-b-eq0, else-i-lt-MOST_PARAMETERS-via-else-i-lt-MOST_PARAMETERS}

pub returns-after-a-eq0 : goal.returns-after-a-eq0
returns-after-a-eq0 c = let a = c.args.a in let b = c.args.b in
    let both : c.if-a-eq0.then_some ≡ (eqb a 0 && eqb b 0) = elim c.if-a-eq0.branch [
      | then-a-eq0 w ↦ rw (eq-eqb a 0 w.if-a-eq0.true) w.then_some-is
      | else-a-eq0 w ↦ w.then_some-is ∙ rw (ne_eqb a 0 w.if-a-eq0.false) refl
    ] in
    rw c.in-Pi.is (constant_is c.leaf.result c.leaf.ensures.0 (eqb a 0 && eqb b 0) (λ v. words_ok a b v Pi) c.leaf.ensures.1 (pi_words a b) (rw (← both) c.then_some.ensures))

pub returns-after-bits-lt-REAL_LIMIT : goal.returns-after-bits-lt-REAL_LIMIT
returns-after-bits-lt-REAL_LIMIT c = let a = c.args.a in let b = c.args.b in
    let bits = c.in-Real.bits in
    let both : c.if-bits-lt-REAL_LIMIT.then_some ≡ (ltb bits 4294967296 && eqb b 0) = elim c.if-bits-lt-REAL_LIMIT.branch [
      | then-bits-lt-REAL_LIMIT w ↦ rw (lt-ltb bits 4294967296 w.if-bits-lt-REAL_LIMIT.true) w.then_some-is
      | else-bits-lt-REAL_LIMIT w ↦ w.then_some-is ∙ rw (le-ltb bits 4294967296 w.if-bits-lt-REAL_LIMIT.false) refl
    ] in
    rw c.in-Real.is (constant_is c.leaf-in-Real.result c.leaf-in-Real.ensures.0 (ltb bits 4294967296 && eqb b 0) (λ v. words_ok a b v (Real bits)) c.leaf-in-Real.ensures.1 (real_words a b bits) (rw (← both) c.then_some-in-Real.ensures))

pub returns-in-Int : goal.returns-in-Int
returns-in-Int c = let a = c.args.a in let b = c.args.b in
    let n = c.in-Int.field-0 in
    rw c.in-Int.is (constant_is c.leaf-in-Int.result c.leaf-in-Int.ensures.0 (eqb b 0) (λ v. words_ok a b v (Int n)) c.leaf-in-Int.ensures.1 (int_words a b n) c.then_some-in-Int.ensures)

pub returns-then-b-eq0 : goal.returns-then-b-eq0
returns-then-b-eq0 c = let a = c.args.a in let b = c.args.b in
    let made = c.leaf-then-b-eq0 in
    rw c.in-Var.is (variable_is made.result made.ensures.0 (λ v. words_ok a b v (Var c.in-Var.i)) c.in-Var.i made.ensures.1 (λ v. var_words a b c.if-b-eq0.true v c.in-Var.i))

pub returns-else-i-lt-MOST_PARAMETERS : goal.returns-else-i-lt-MOST_PARAMETERS
returns-else-i-lt-MOST_PARAMETERS c = let a = c.args.a in let b = c.args.b in
    elim c.else-i-lt-MOST_PARAMETERS.branch [
      | else-i-lt-MOST_PARAMETERS-via-then-i-lt-MOST_PARAMETERS+else-b-eq0 w ↦ leaf_second a b (as_expr c.args.leaf) w.if-b-eq0.false
      | else-i-lt-MOST_PARAMETERS-via-else-i-lt-MOST_PARAMETERS w ↦ rw c.in-Var.is (no_variable (λ v. words_ok a b v (Var c.in-Var.i)) c.in-Var.i w.if-i-lt-MOST_PARAMETERS.false (var_past a b c.in-Var.i))
    ]

pub returns-in-Binary : goal.returns-in-Binary
returns-in-Binary c = elim c.in-Binary.is [
  | inl w ↦ rw w.3 (binary_no_leaf c.args.a c.args.b (as_binop w.0) w.1 w.2)
  | inr w ↦ rw w.2 (unary_no_leaf c.args.a c.args.b (as_unop w.0) w.1)
]
