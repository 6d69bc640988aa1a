-- The first gate entry that is not well formed is the first bad one.
use mathlib.Core.Path.{◌∙◌, ap, sym}
use Rattle.model.specs.Check.{bad, gate_entries}
use Rattle.model.specs.Image.{gates}
use native.Mathlib.Omega.{arith}
use Rattle.image_entries.proofs.RegisterFlawLaws.{bad_all, gate_bad, gate_fine}
use Rattle.model.proofs.Ranges.{bad_here, bad_next, bad_none}
use Rattle.image_entries.proofs.first_bad_gate.Goals as goal

pub loop-g-init : goal.loop-g-init
unfolding gate_entries
loop-g-init c = bad_all _ _ (gates c.args.image.now.words.now)

pub loop-g-preserved : goal.loop-g-preserved
loop-g-preserved c = let image = c.args.image.now in
    c.loop-g.invariant ∙ bad_next _ _ c.loop-g.g (gates image.words.now) (omega (arith, c.loop-g-test.true, image.laid.gates_is)) (gate_fine image.words.now c.loop-g.g (sym c.gate_ok.ensures ∙ c.if-not-gate_ok.false))

pub returns-then-not-gate_ok : goal.returns-then-not-gate_ok
returns-then-not-gate_ok c = let image = c.args.image.now in
    ap (bad 3) c.gate_at.ensures.is
    ∙ sym (c.loop-g.invariant ∙ bad_here _ _ c.loop-g.g (gates image.words.now) 3 (omega (arith, c.loop-g-test.true, image.laid.gates_is)) (gate_bad image.words.now c.loop-g.g (sym c.gate_ok.ensures ∙ c.if-not-gate_ok.true)) (λ e. omega arith))

pub returns : goal.returns
returns c = let image = c.args.image.now in
    sym (c.loop-g.invariant ∙ bad_none _ _ c.loop-g.g (gates image.words.now) (omega (arith, c.loop-g-test.false, image.laid.gates_is)))
