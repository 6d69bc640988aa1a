-- The statements of a scope are added up in their order.
use Rattle.std.proofs.Common.{◌≡◌, ◌≤◌}
use Rattle.tally.specs.Weights.{capped_figures}
use Rattle.tally.proofs.BodyTallyLaws.{so_far}
use Rattle.tally.proofs.scope.OpenedScope.body_figures.Given as goal

abbrev pub invariant-loop-s : goal.invariant-loop-s
invariant-loop-s l = let first = l.initial.s-iterator in
    let rest = l.s-iterator in
    (l.total ≡ capped_figures (so_far l.self.image.now.words.now l.self.levels l.self.scope first.start rest.start)) × (rest.end ≡ first.end) × (first.start ≤ rest.start) × (rest.start ≤ rest.end)
