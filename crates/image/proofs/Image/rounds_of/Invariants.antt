-- The largest size of some arguments is found one argument after another.
use mathlib.Core.Path.{◌≡◌}
use mathlib.Core.List.{map}
use Rattle.model.specs.Lists.{range, largest}
use Rattle.model.specs.Image.{argument_size}
use Rattle.image.proofs.Image.rounds_of.Given as goal

abbrev pub invariant-loop-i : goal.invariant-loop-i
invariant-loop-i l = l.most ≡ largest (map (argument_size l.self.words.now l.scope) (range l.a l.i))
