-- `Value::checked_div` gives `value_quotient`: each of its five ways is the definition's for the parts that are 0.
use mathlib.Core.Path.{◌∙◌, sym}
use borrow.Author.Tests.{eq-eqb, ne_eqb}
use Rattle.value.specs.Value.{rational_value, value_quotient}
use Rattle.value.proofs.SoundLaws.{evaluates_to, or_overflow_is, quotient_sound_value}
use Rattle.value.proofs.Value.checked_div.Goals as goal

pub returns-in-0-default : goal.returns-in-0-default
unfolding value_quotient
returns-in-0-default c =
    evaluates_to (or_overflow_is _ rational_value _ c.map_or.ensures ∙ rw c.checked_div.ensures.is (sym (simp (ne_eqb _ _ c.in-0-default.is-1.1, eq-eqb _ _ c.in-0-default.is-0, eq-eqb _ _ c.if-self-eq0.true))))
    (quotient_sound_value c.args.self c.args.y c.requires.0 c.requires.1)

pub returns-in_default : goal.returns-in_default
unfolding value_quotient
returns-in_default c =
    evaluates_to (c.common_ratio.ensures ∙ rw (c.checked_div-in_default.ensures.is, c.checked_div-in_default-2.ensures.is) (sym (simp (ne_eqb _ _ c.in_default.is-1.1, ne_eqb _ _ c.in_default.is-0.1))))
    (quotient_sound_value c.args.self c.args.y c.requires.0 c.requires.1)
