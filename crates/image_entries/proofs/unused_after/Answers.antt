-- The words from one on are 0 if each of them is.
use mathlib.Core.Path.{◌≡◌, sym, ◌∙◌}
use native.Mathlib.Omega.{arith}
use borrow.Author.Tests.{eq-eqb, ne_eqb}
use Rattle.model.specs.Check.{unused}
use Rattle.image_entries.proofs.UnusedLaws.{zero_at, words_start, words_next, words_fail, zeros_are}
use Rattle.image_entries.proofs.unused_after.Goals as goal

pub loop-i-init : goal.loop-i-init
loop-i-init c = words_start _ _

pub returns-then-word-ne0 : goal.returns-then-word-ne0
unfolding unused
returns-then-word-ne0 c = let image = c.args.image.now.words.now in
    words_fail (zero_at image c.statement_at-at.result) _ _ 5 c.loop-i.auto.i c.loop-i-test.true (ne_eqb _ _ (λ e. c.if-word-ne0.true (c.word.ensures ∙ e)))
    ∙ zeros_are image _ _ c.args.n c.statement_at-at.ensures.is

pub loop-i-preserved : goal.loop-i-preserved
loop-i-preserved c =
    words_next (zero_at c.args.image.now.words.now c.statement_at-at.result) _ _ c.loop-i.auto.i c.loop-i.invariant (eq-eqb _ _ (sym c.word.ensures ∙ c.if-word-ne0.false))

pub returns : goal.returns
unfolding unused
returns c = let same : c.loop-i.i ≡ 5 = omega arith in
    sym (rw same at c.loop-i.invariant) ∙ zeros_are c.args.image.now.words.now _ _ c.args.n c.statement_at-at.ensures.is
