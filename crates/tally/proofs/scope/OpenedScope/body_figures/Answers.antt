-- The statements of a scope are added up in their order.
use Rattle.std.proofs.Common.{◌+◌, ◌-◌, ◌≡◌, ◌∙◌, arith}
use mathlib.Core.Path.{refl, ap}
use Rattle.model.proofs.Accepted.{accepts}
use Rattle.model.proofs.Facts.{run_facts}
use Rattle.tally.proofs.CappedLaws.{alike}
use Rattle.tally.proofs.BodyTallyLaws.{none_yet, one_more, whole_body}
use Rattle.tally.proofs.PlainTallyLaws.{statements_few}
use Rattle.tally.proofs.scope.OpenedScope.body_figures.Goals as goal
use Rattle.tally.proofs.scope.OpenedScope.body_figures.Goals.{After-into_iter-s-iterator}

-- where the statements start and end
starts : (b : After-into_iter-s-iterator) → b.into_iter-s-iterator.result.start ≡ b.statements_of-span.result.start
starts b = ap (λ r. r.start) b.into_iter-s-iterator.ensures.into_iter_gives

ends : (b : After-into_iter-s-iterator) → b.into_iter-s-iterator.result.end ≡ b.statements_of-span.result.end
ends b = ap (λ r. r.end) b.into_iter-s-iterator.ensures.into_iter_gives

pub statements_of-span-requires : goal.statements_of-span-requires
statements_of-span-requires c = let o = c.args.self.now.opened in
    (record { each = (accepts _ o.accepted).gate_entry }, omega (arith, o.within, c.args.self.now.image.now.laid.gates_is))

pub loop-s-init : goal.loop-s-init
loop-s-init c = let a = c.args.self.now in
    let b = (goal.at.loop-s-init c).After-into_iter-s-iterator in
    (none_yet a.image.now.words.now a.levels a.scope c.into_iter-s-iterator.result.start, refl, omega arith, omega (arith, starts b, ends b, c.statements_of-span.ensures.rising))

pub statement_figures-requires : goal.statement_figures-requires
statement_figures-requires c = let a = c.args.self.now in
    let image = a.image.now.words.now in
    let b = (goal.at.statement_figures-requires c).After-into_iter-s-iterator in
    let from = c.statements_of-span.result.start in
    let at = c.in-Some.ensures.steps.1 in
    let here : from + (c.in-Some.s - from) ≡ c.in-Some.s = omega (arith, c.loop-s.invariant.2, starts b, at.1) in (
      rw here at (run_facts image (accepts image a.opened.accepted) a.scope from (c.statements_of-span.result.end - from) (c.in-Some.s - from) a.opened.within c.statements_of-span.ensures.statements_are (omega (arith, c.loop-s.invariant.1, c.loop-s.invariant.2, starts b, ends b, at.0, at.1))),
      omega (arith, c.loop-s.invariant.1, ends b, at.0, at.1, c.statements_of-span.ensures.listed, statements_few _ _ a.image.now.laid),
    )

pub loop-s-preserved : goal.loop-s-preserved
loop-s-preserved c = let a = c.args.self.now in
    let steps = c.in-Some.ensures.steps in
    let first = c.into_iter-s-iterator.result.start in
    (rw steps.1.2 (one_more a.image.now.words.now a.levels a.scope first c.loop-s.s-iterator.start _ _ _ c.loop-s.invariant.2 c.loop-s.invariant.0 (rw steps.1.1 at c.statement_figures.ensures) c.plus-total.ensures), steps.0 ∙ c.loop-s.invariant.1, omega (arith, steps.1.2, c.loop-s.invariant.2), omega (arith, steps.0, steps.1.0, steps.1.2))

pub returns : goal.returns
returns c = let a = c.args.self.now in
    let b = (goal.at.returns c).After-into_iter-s-iterator in
    let e : c.loop-s.s-iterator.start ≡ c.statements_of-span.result.end = omega (arith, c.in-None.ensures.steps.1.0, c.loop-s.invariant.1, c.loop-s.invariant.3, ends b) in
    rw (e, starts b) at c.loop-s.invariant.0 ∙ alike _ _ (whole_body a.image.now.words.now a.levels a.scope c.statements_of-span.result.start c.statements_of-span.result.end c.statements_of-span.ensures.statements_are)
