-- The sum of the sizes is built up register by register.
use Prim.Native.Nat.{ℕ, ◌+◌}
use native.Mathlib.Omega.{arith}
use mathlib.Core.Path.{◌≡◌, refl, sym, ap, ◌∙◌}
use Rattle.image.proofs.RegisterStartsLaws.{total_next, total_within}
use Rattle.model.specs.Lists.{range, sum}
use Rattle.model.specs.Image.{word}
use Rattle.image.proofs.size_in_all.Goals as goal

pub loop-r-init : goal.loop-r-init
unfolding sum range
loop-r-init c = refl

pub overflow_add-total : goal.overflow_add-total
overflow_add-total c = record { fits = omega (arith, c.word-total.ensures, total_within (λ (i : ℕ). word c.args.words.now (c.args.at + i)) c.loop-r.r c.args.n c.loop-r.total c.loop-r-test.true c.loop-r.invariant c.requires.2) }

pub loop-r-preserved : goal.loop-r-preserved
loop-r-preserved c = let a = c.args in
    ap (λ (z : ℕ). c.loop-r.total + z) c.word-total.ensures ∙ sym (total_next (λ (i : ℕ). word a.words.now (a.at + i)) c.loop-r.r c.loop-r.total c.loop-r.invariant)

pub returns : goal.returns
returns c = let same : c.loop-r.r ≡ c.args.n = omega arith in
    rw same at c.loop-r.invariant
