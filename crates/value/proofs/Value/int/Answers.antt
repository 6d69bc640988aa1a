-- `Value::int` gives `integer`: a whole number as a rational angle, if it is in range.
use mathlib.Core.Path.{◌∙◌, sym}
use Rattle.value.proofs.SoundLaws.{evaluates_to, integer_sound}
use Rattle.value.specs.Value.{integer}
use borrow.Author.Tests.{lt-ltb}
use Rattle.value.proofs.Value.int.Goals as goal

pub returns-then-n-lt-MAGNITUDE_LIMIT : goal.returns-then-n-lt-MAGNITUDE_LIMIT
unfolding integer
returns-then-n-lt-MAGNITUDE_LIMIT c = evaluates_to (c.ratio_value.ensures ∙ sym (rw (lt-ltb _ _ c.if-n-lt-MAGNITUDE_LIMIT.true))) (integer_sound c.args.n)
