-- `Value::checked_sin` gives `sine`: the table's entry for a multiple of pi without its whole turns.
use mathlib.Core.Path.{◌∙◌, sym}
use borrow.Author.Tests.{eq-eqb}
use Rattle.value.specs.Value.{sine, sine_table}
use Rattle.value.proofs.SoundLaws.{evaluates_to, or_overflow_is, sine_sound}
use Rattle.value.proofs.Value.checked_sin.Goals as goal

pub returns-then-self-eq0 : goal.returns-then-self-eq0
unfolding sine
returns-then-self-eq0 c =
    evaluates_to (or_overflow_is _ sine_table _ c.map_or.ensures ∙ rw c.without_whole_turns.ensures.is (sym (simp (eq-eqb _ _ c.if-self-eq0.true)))) (sine_sound c.args.self c.requires)
