-- Few expressions fit the short table, and those of any image the long one.
use Prim.Native.Nat.{◌≤◌}
use native.Mathlib.Omega.{arith}
use Rattle.model.specs.Image.{expressions}
use Rattle.linearize.proofs.visit_keeping_values.Goals as goal

pub visit_with_kept_values-requires : goal.visit_with_kept_values-requires
visit_with_kept_values-requires c = let image = c.args.program.now.image in
    let few : expressions image.words.now ≤ 128 = omega (arith, c.if-program.true, image.laid.expressions_is) in
    let short : 128 ≤ 32768 = omega arith in
    (c.requires, few, short)

pub visit_with_kept_values-requires-2 : goal.visit_with_kept_values-requires-2
visit_with_kept_values-requires-2 c = let image = c.args.program.now.image in
    let any : expressions image.words.now ≤ 2727 = omega (arith, image.laid.expressions_is, image.laid.whole, image.laid.short) in
    let short : 2727 ≤ 32768 = omega arith in
    (c.requires, any, short)
