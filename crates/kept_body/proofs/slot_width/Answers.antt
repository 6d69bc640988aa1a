-- After g turns of the loop the width is enough for the bodies of the first g gates.
use Prim.Native.Nat.{◌+◌, ◌*◌}
use native.Mathlib.Omega.{arith}
use mathlib.Core.Path.{ap₂}
use Rattle.kept_body.proofs.SlotLaws.{wide_next, gate_read, parameters_read}
use Rattle.kept_body.proofs.slot_width.Goals as goal

pub overflow_mul-angle_words : goal.overflow_mul-angle_words
overflow_mul-angle_words c = let at = c.gate_at-at.ensures.is in
    record { fits = omega (arith, parameters_read c.requires _ (omega (arith, c.loop-g-test.true, c.args.image.now.laid.gates_is)) at c.word.ensures) }

pub overflow_add-angle_words : goal.overflow_add-angle_words
overflow_add-angle_words c = let at = c.gate_at-at.ensures.is in
    record { fits = omega (arith, parameters_read c.requires _ (omega (arith, c.loop-g-test.true, c.args.image.now.laid.gates_is)) at c.word.ensures) }

pub overflow_add-angle_words-in-loop-g : goal.overflow_add-angle_words-in-loop-g
overflow_add-angle_words-in-loop-g c = let at = c.gate_at-at.ensures.is in
    let counts = gate_read c.requires _ (omega (arith, c.loop-g-test.true, c.args.image.now.laid.gates_is)) at c.word.ensures c.word-in-loop-g.ensures in
    record { fits = omega (arith, counts.0.1, counts.1.1) }

pub loop-g-preserved : goal.loop-g-preserved
loop-g-preserved c = let at = c.gate_at-at.ensures.is in
    let loop = c.loop-g.invariant in
    let counts = gate_read c.requires _ (omega (arith, c.loop-g-test.true, c.args.image.now.laid.gates_is)) at c.word.ensures c.word-in-loop-g.ensures in
    wide_next loop _ (ap₂ (λ n m. 4 + 6 * n + m) counts.0.0 counts.1.0) (omega (arith, counts.0.1, counts.1.1)) (omega (arith, c.max-width.ensures))
