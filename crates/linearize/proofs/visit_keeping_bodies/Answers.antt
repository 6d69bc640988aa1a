-- The slots of an image are as wide as its gates need, and the table is short where that is enough.
use Prim.Native.Nat.{◌≤◌}
use native.Mathlib.Omega.{arith}
use native.Mathlib.Nat.{mul-le-mul}
use Rattle.linearize.proofs.visit_keeping_bodies.Goals as goal

pub overflow_mul-width : goal.overflow_mul-width
overflow_mul-width c = let image = c.args.program.now.image in
    let few : image.layout.gates ≤ 128 = omega (arith, image.laid.few_gates, image.laid.gates_is) in
    record { fits = omega (arith, mul-le-mul c.slot_width-width.ensures.narrow few) }

pub overflow_add-width : goal.overflow_add-width
overflow_add-width c = let image = c.args.program.now.image in
    let few : image.layout.gates ≤ 128 = omega (arith, image.laid.few_gates, image.laid.gates_is) in
    record { fits = omega (arith, mul-le-mul c.slot_width-width.ensures.narrow few) }
