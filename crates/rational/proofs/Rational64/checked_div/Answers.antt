-- `Rational64::checked_div` gives `quotient`: it is the product with the reciprocal.
use mathlib.Core.Path.{◌∙◌}
use Rattle.rational.specs.Rational.{product, quotient}
use Rattle.rational.proofs.Rational64.checked_div.Goals as goal

pub returns : goal.returns
unfolding product quotient
returns c = let e = c.checked_mul.ensures in
    record { is = e.is ∙ rw c.recip.ensures.0; sound = e.sound }
