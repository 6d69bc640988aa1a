-- The scopes are looked at in their order, and the first bad statement of the first that has one is what is found.
use native.Mathlib.Omega.{arith}
use Rattle.std.proofs.Common.{◌≡◌, refl, ◌+◌, Err, rules, ap, ◌∙◌}
use Rattle.image.specs.Answer.{answer_flaw}
use Rattle.image_check.proofs.FirstBadLaws.{scopes_start, scopes_next, scopes_here, scopes_end}
use Rattle.image_check.proofs.first_bad_judged.Goals as goal

pub loop-number-init : goal.loop-number-init
loop-number-init c = (scopes_start _ _ c.args.judged.now.image.laid.gates_is, refl, refl)

pub invariant_of-judged_scope-in-loop-number : goal.invariant_of-judged_scope-in-loop-number
invariant_of-judged_scope-in-loop-number c = record { within = rw c.loop-number.invariant.1 (omega (arith, c.loop-number-test.true)) }

pub invariant_of-judged_scope-in-loop-number-2 : goal.invariant_of-judged_scope-in-loop-number-2
invariant_of-judged_scope-in-loop-number-2 c = let same = c.loop-number.invariant in
    record { judged = rw (same.1, same.2) c.args.judged.now.judged; gated = rw same.1 c.requires }

pub returns-in_err-first_bad_statement : goal.returns-in_err-first_bad_statement
returns-in_err-first_bad_statement c = let e = c.in_err-first_bad_statement.field-0.0 in
    let image = c.args.judged.now.image in
    let l = c.loop-number in
    let same : c.from_residual.result ≡ Err e = search rules in
    ap answer_flaw same ∙ scopes_here image.words.now l.number image.layout.gates e l.invariant.0 (omega arith) (rw l.invariant.1 at c.in_err-first_bad_statement.ensures)

pub loop-number-preserved : goal.loop-number-preserved
loop-number-preserved c = let image = c.args.judged.now.image in
    let l = c.loop-number in
    (scopes_next image.words.now l.number image.layout.gates l.invariant.0 (omega arith) (rw l.invariant.1 at c.in_ok-first_bad_statement.ensures), l.invariant.1, l.invariant.2)

pub returns-in_ok-first_bad_statement : goal.returns-in_ok-first_bad_statement
returns-in_ok-first_bad_statement c = let image = c.args.judged.now.image in
    let l = c.loop-number in
    scopes_end image.words.now (l.number + 1) image.layout.gates
    (scopes_next image.words.now l.number image.layout.gates l.invariant.0 (omega arith) (rw l.invariant.1 at c.in_ok-first_bad_statement.ensures)) (omega arith)
