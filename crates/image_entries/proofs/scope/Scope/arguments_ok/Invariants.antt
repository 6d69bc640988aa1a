-- All arguments are well formed if each one up to the last is.
use mathlib.Core.Path.{◌≡◌}
use mathlib.Core.Bool.{true}
use Rattle.model.specs.Lists.{range, all}
use Rattle.model.specs.Check.{argument_ok}
use Rattle.image_entries.proofs.scope.Scope.arguments_ok.Given as goal

abbrev pub invariant-loop-i : goal.invariant-loop-i
invariant-loop-i l = all (argument_ok l.self.image.words.now l.self.number) (range l.a l.i) ≡ true
