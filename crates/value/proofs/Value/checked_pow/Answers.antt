-- `Value::checked_pow` gives `value_power`: the root of a power where both angles are rational.
use mathlib.Core.Path.{◌∙◌, sym}
use borrow.Author.Tests.{eq-eqb}
use Rattle.value.specs.Value.{value_power}
use Rattle.value.proofs.SoundLaws.{evaluates_to, power_sound_value}
use Rattle.value.proofs.Value.checked_pow.Goals as goal

pub returns-then-y-eq0 : goal.returns-then-y-eq0
unfolding value_power
returns-then-y-eq0 c =
    evaluates_to (c.root_of_power.ensures ∙ rw c.checked_pow.ensures.is (sym (simp (eq-eqb _ _ c.if-self-eq0.true, eq-eqb _ _ c.if-y-eq0.true)))) (power_sound_value c.args.self c.args.y c.requires.0 c.requires.1)
