-- All parameters are well formed if each one up to the last is.
use mathlib.Core.Bool.{true}
use mathlib.Core.Path.{◌≡◌}
use Rattle.model.specs.Lists.{range, all}
use Rattle.image_entries.proofs.JudgementLaws.{parameter_ok}
use Rattle.image_entries.proofs.expressions.JudgedImage.parameters_ok.Given as goal

abbrev pub invariant-loop-i : goal.invariant-loop-i
invariant-loop-i l = all (parameter_ok l.self.image.words.now l.v) (range l.p l.i) ≡ true
