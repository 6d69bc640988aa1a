-- The total of the sizes so far is where the next register starts.
use Prim.Native.Nat.{ℕ, ◌+◌}
use native.Mathlib.Omega.{arith}
use mathlib.Core.Path.{◌≡◌, refl, sym, ap, ◌∙◌}
use lib.ListN.{length-set}
use borrow.Author.Rules.{rules}
use Rattle.model.specs.Lists.{range, sum}
use Rattle.model.specs.Image.{word}
use Rattle.image.proofs.RegisterStartsLaws.{firsts_none, firsts_next, total_within}
use Rattle.image.proofs.RegisterStartsLaws.{total_next}
use Rattle.image.proofs.first_of_each.Goals as goal

pub loop-r-init : goal.loop-r-init
unfolding sum range
loop-r-init c = (refl, refl, firsts_none _ _)

pub overflow_add-total : goal.overflow_add-total
overflow_add-total c = let l = c.loop-r in
    record { fits = omega (arith, c.word-total.ensures, total_within (λ (i : ℕ). word c.args.words.now (c.args.at + i)) l.r c.args.n l.total c.loop-r-test.true l.invariant.1 c.requires.2) }

pub loop-r-preserved : goal.loop-r-preserved
loop-r-preserved c = let l = c.loop-r in
    let size : ℕ → ℕ = λ (i : ℕ). word c.args.words.now (c.args.at + i) in (
      length-set l.firsts l.r l.total ∙ l.invariant.0,
      ap (λ (z : ℕ). l.total + z) c.word-total.ensures ∙ sym (total_next size l.r l.total l.invariant.1),
      firsts_next size l.r l.total l.firsts (search rules) l.invariant.1 l.invariant.2,
    )

pub shape_of-firsts : goal.shape_of-firsts
shape_of-firsts c = c.loop-r.invariant.0

pub returns : goal.returns
returns c = let l = c.loop-r in
    let same : l.r ≡ c.args.n = omega arith in
    rw same at l.invariant.2
