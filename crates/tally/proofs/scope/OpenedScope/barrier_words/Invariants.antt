-- The words of a barrier are added up argument by argument.
use Rattle.std.proofs.Common.{◌+◌, map, ◌≡◌}
use Rattle.model.specs.Image.{argument_size}
use Rattle.model.specs.Lists.{range, sum}
use Rattle.tally.specs.Weights.{capped}
use Rattle.tally.proofs.scope.OpenedScope.barrier_words.Given as goal

abbrev pub invariant-loop-i : goal.invariant-loop-i
invariant-loop-i l = l.total ≡ capped (2 + sum (map (argument_size l.self.image.now.words.now l.self.scope) (range l.a l.i)))
