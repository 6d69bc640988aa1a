-- Sizes match if each one is 1 or the largest.
use mathlib.Core.Path.{◌≡◌, sym, ap, ◌∙◌}
use native.Mathlib.Omega.{arith}
use Rattle.model.specs.Image.{argument_size, rounds}
use Rattle.model.proofs.Ranges.{all_start, all_next, all_fails}
use Rattle.image_entries.proofs.MatchingLaws.{fit, fitting, fit_one, fit_most, fit_not, matching_is}
use Rattle.image_entries.proofs.sizes_match.Goals as goal
use Rattle.image_entries.proofs.sizes_match.Goals.{else-size-ne1-via-then-size-ne1+else-size-most, else-size-ne1-via-else-size-ne1}

pub loop-i-init : goal.loop-i-init
loop-i-init c = all_start _ _

pub returns-then-size-most : goal.returns-then-size-most
unfolding rounds
returns-then-size-most c = let image = c.args.image.now in
    let size = argument_size image.words.now c.args.scope in
    all_fails (fitting c.rounds_of-most.result size) _ _ _ c.loop-i-test.true (ap (fit _) (sym c.argument_size-size.ensures) ∙ fit_not _ _ c.if-size-ne1.true c.if-size-most.true)
    ∙ matching_is size _ _ c.rounds_of-most.ensures

pub loop-i-preserved : goal.loop-i-preserved
loop-i-preserved c = let image = c.args.image.now in
    let is = sym c.argument_size-size.ensures in
    all_next (fitting c.rounds_of-most.result (argument_size image.words.now c.args.scope)) _ _ c.loop-i.invariant
    (elim c.else-size-ne1.branch [
      | else-size-ne1-via-then-size-ne1+else-size-most w ↦ fit_most _ _ (is ∙ w.if-size-most.false)
      | else-size-ne1-via-else-size-ne1 w ↦ fit_one _ _ (is ∙ w.if-size-ne1.false)
    ])

pub returns : goal.returns
unfolding rounds
returns c = let image = c.args.image.now in
    let size = argument_size image.words.now c.args.scope in
    let same : c.loop-i.i ≡ c.args.n = omega arith in
    sym (rw same at c.loop-i.invariant) ∙ matching_is size _ _ c.rounds_of-most.ensures
