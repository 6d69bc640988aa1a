-- `Rational64::checked_sub` gives `difference`: it is the sum with the opposite.
use mathlib.Core.Path.{◌∙◌}
use Rattle.rational.specs.Rational.{difference}
use Rattle.rational.proofs.Rational64.checked_sub.Goals as goal

pub returns : goal.returns
unfolding difference
returns c = let e = c.checked_add.ensures in
    record { is = e.is ∙ rw c.opposite.ensures.0; sound = e.sound }
