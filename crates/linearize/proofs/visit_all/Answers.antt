-- The registers of an image are few enough to be added up, and the table of either length has room for them.
use Prim.Native.Nat.{◌≤◌}
use native.Mathlib.Omega.{arith}
use Rattle.linearize.proofs.MainContextLaws.{registers_few}
use Rattle.linearize.proofs.visit_all.Goals as goal

pub overflow_add-layout : goal.overflow_add-layout
overflow_add-layout c = record { fits = omega (arith, registers_few c.args.accepted.now.image.laid) }

pub visit_with_register_starts-requires-2 : goal.visit_with_register_starts-requires-2
visit_with_register_starts-requires-2 c = let short : 8192 ≤ 32768 = omega arith in
    (c.requires, registers_few c.args.accepted.now.image.laid, short)
