-- `dyadic_rational` gives the reduced fraction: each turn of its loop halves the numerator and doubles the power of 2 beside it.
use Rattle.float.proofs.PowerOfTwoLaws.{halved}
use Rattle.float.proofs.DyadicLaws.{whole_is, odd_is}
use mathlib.Core.Path.{◌≡◌, ◌∙◌}
use Prim.Native.Nat.{◌%◌}
use native.Mathlib.Omega.{arith}
use Rattle.float.proofs.dyadic_rational.Goals as goal
use Rattle.float.proofs.dyadic_rational.Goals.{then-loop-j-test+else-m-eq0, else-loop-j-test}

pub loop-j-preserved : goal.loop-j-preserved
loop-j-preserved c = (halved _ _ c.if-m-eq0.true ∙ c.loop-j.invariant.0, omega arith)

pub returns-then-j-ge-SMALLEST_SHIFT : goal.returns-then-j-ge-SMALLEST_SHIFT
returns-then-j-ge-SMALLEST_SHIFT c = let args = c.args in
    let loop = c.loop-j in
    let if2 = c.if-j-ge-SMALLEST_SHIFT.true in
    let l = loop in
    c.range_checked.ensures ∙ whole_is args.negative _ _ _ _ _ _ if2 l.invariant.0 c.capped_power_of_two.ensures c.capped_mul-n.ensures c.sign_unless_zero.ensures

pub returns : goal.returns
returns c = let l = c.loop-j in
    let below = c.if-j-ge-SMALLEST_SHIFT.false in
    let o : l.m % 2 ≡ 1 = elim c.loop-j-test.branch [ then-loop-j-test+else-m-eq0 w ↦ omega arith | else-loop-j-test w ↦ omega arith ] in
    c.range_checked-2.ensures ∙ odd_is c.args.negative _ _ _ _ _ o (omega arith) l.invariant.0 (omega arith) c.capped_power_of_two-2.ensures c.sign_unless_zero-2.ensures
