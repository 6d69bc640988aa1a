-- The first register of size 0, or past the limit in all, is the first bad one.
use Prim.Native.Nat.{ℕ, ◌+◌}
use mathlib.Core.Path.{◌≡◌, ◌∙◌, ap, refl, sym}
use native.Mathlib.Omega.{arith}
use Rattle.image_entries.proofs.RegisterFlawLaws.{bad_all, register_fine, register_over, register_zero}
use Rattle.image.proofs.RegisterStartsLaws.{total_next}
use Rattle.model.proofs.Ranges.{bad_here, bad_next, bad_none}
use Rattle.model.specs.Lists.{range, sum}
use Rattle.model.specs.Image.{word}
use Rattle.model.specs.Check.{register_flaw}
use Rattle.image_entries.proofs.first_bad_register.Goals as goal
use Rattle.image_entries.proofs.first_bad_register.Goals.{then-size-eq0-via-then-size-eq0, then-size-eq0-via-else-size-eq0+then-total-size}

pub loop-i-init : goal.loop-i-init
unfolding sum range
loop-i-init c = (omega arith, refl, bad_all _ _ c.args.n)

pub returns-then-size-eq0 : goal.returns-then-size-eq0
returns-then-size-eq0 c = let l = c.loop-i in
    let size : ℕ → ℕ = λ (i : ℕ). word c.args.words.now (c.args.at + i) in
    let wrong : register_flaw size l.i ≡ 2 = elim c.then-size-eq0.branch [
      | then-size-eq0-via-then-size-eq0 w ↦ register_zero size l.i l.total l.invariant.1 (sym c.word-size.ensures ∙ w.if-size-eq0.true)
      | then-size-eq0-via-else-size-eq0+then-total-size w ↦ register_over size l.i l.total l.invariant.1 (omega (arith, w.if-total-size.true, c.word-size.ensures))
    ] in
    sym (l.invariant.2 ∙ bad_here _ _ l.i _ 2 c.loop-i-test.true wrong (λ e. omega arith))

pub loop-i-preserved : goal.loop-i-preserved
loop-i-preserved c = let l = c.loop-i in
    let size : ℕ → ℕ = λ (i : ℕ). word c.args.words.now (c.args.at + i) in
    let w = c.word-size.ensures in (
      omega arith,
      ap (λ (z : ℕ). l.total + z) w ∙ sym (total_next size l.i l.total l.invariant.1),
      l.invariant.2 ∙ bad_next _ _ l.i _ c.loop-i-test.true (register_fine size l.i l.total l.invariant.1 (λ e. c.if-size-eq0.false (w ∙ e)) (omega (arith, c.if-total-size.false, w))),
    )

pub returns : goal.returns
returns c = let l = c.loop-i in
    sym (l.invariant.2 ∙ bad_none _ _ l.i _ c.loop-i-test.false)
