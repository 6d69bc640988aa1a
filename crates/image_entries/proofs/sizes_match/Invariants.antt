-- Sizes match if each one is 1 or the largest.
use mathlib.Core.Path.{◌≡◌}
use mathlib.Core.Bool.{true}
use Rattle.model.specs.Lists.{range, all}
use Rattle.model.specs.Image.{argument_size}
use Rattle.image_entries.proofs.MatchingLaws.{fitting}
use Rattle.image_entries.proofs.sizes_match.Given as goal

abbrev pub invariant-loop-i : goal.invariant-loop-i
invariant-loop-i l = all (fitting l.most (argument_size l.image.words.now l.scope)) (range l.a l.i) ≡ true
