-- `Value::checked_sqrt` gives `square_root`: the rational root of a rational angle.
use mathlib.Core.Path.{◌∙◌, sym}
use borrow.Author.Tests.{eq-eqb}
use Rattle.value.specs.Value.{rational_value, square_root}
use Rattle.value.proofs.SoundLaws.{evaluates_to, or_function_of_floats_is, square_root_sound}
use Rattle.value.proofs.Value.checked_sqrt.Goals as goal

pub returns-then-self-eq0 : goal.returns-then-self-eq0
unfolding square_root
returns-then-self-eq0 c =
    evaluates_to (or_function_of_floats_is _ rational_value _ c.map_or.ensures ∙ rw c.rat_root.ensures.is (sym (simp (eq-eqb _ _ c.if-self-eq0.true)))) (square_root_sound c.args.self c.requires)
