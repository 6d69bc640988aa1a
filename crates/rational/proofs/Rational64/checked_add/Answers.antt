-- `Rational64::checked_add` gives `fraction_sum`: its steps are the definition's, each capped at the limit before the next.
use native.Mathlib.Omega.{arith}
use mathlib.Core.Path.{sym, ap, ◌∙◌}
use Rattle.std.specs.Prelude.{Some}
use Rattle.rational.proofs.SumLaws.{unlike_is, common_pos, sum_is}
use Rattle.rational.proofs.LowestTermsLaws.{checks_to, sum_sound}
use Rattle.rational.proofs.Rational64.checked_add.Goals as goal

pub lowest_terms-requires : goal.lowest_terms-requires
lowest_terms-requires c = let common-denominator = c.common_denominator-l.ensures in
    rw common-denominator (omega (arith, common_pos _ _ c.requires.0.positive c.requires.1.positive))

pub returns-then-all_in_range : goal.returns-then-all_in_range
returns-then-all_in_range c = let common-denominator = c.common_denominator-l in
    let capped-mul = c.capped_mul-p in
    let capped-mul2 = c.capped_mul-q in
    let sum-magnitude = c.sum_magnitude-s in
    let sum-sign = c.sum_sign-sign in
    let all-in-range = c.all_in_range in
    checks_to (ap Some c.lowest_terms.ensures ∙ sym (rw c.if-all_in_range.true) ∙ sum_is c.args.self c.args.y common-denominator.result capped-mul.result capped-mul2.result sum-magnitude.result _ sum-sign.result all-in-range.result
    common-denominator.ensures capped-mul.ensures capped-mul2.ensures (unlike_is _ _) sum-magnitude.ensures sum-sign.ensures all-in-range.ensures)
    (sum_sound c.args.self c.args.y c.requires.0 c.requires.1)

pub returns-else-all_in_range : goal.returns-else-all_in_range
returns-else-all_in_range c = let common-denominator = c.common_denominator-l in
    let capped-mul = c.capped_mul-p in
    let capped-mul2 = c.capped_mul-q in
    let sum-magnitude = c.sum_magnitude-s in
    let sum-sign = c.sum_sign-sign in
    checks_to (sym (rw c.if-all_in_range.false) ∙ sum_is c.args.self c.args.y common-denominator.result capped-mul.result capped-mul2.result sum-magnitude.result _ sum-sign.result c.all_in_range.result
    common-denominator.ensures capped-mul.ensures capped-mul2.ensures (unlike_is _ _) sum-magnitude.ensures sum-sign.ensures c.all_in_range.ensures)
    (sum_sound c.args.self c.args.y c.requires.0 c.requires.1)
