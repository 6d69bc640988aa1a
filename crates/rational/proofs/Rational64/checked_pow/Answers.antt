-- `Rational64::checked_pow` gives `power`: powers of coprime numbers are coprime, so that nothing is left to reduce.
use mathlib.Core.Path.{◌∙◌}
use Rattle.rational.proofs.PowerLaws.{power_is}
use Rattle.rational.proofs.LowestTermsLaws.{checks_to, power_sound}
use Rattle.rational.proofs.Rational64.checked_pow.Goals as goal

pub returns : goal.returns
returns c = let capped-pow = c.capped_pow-n.ensures in
    checks_to (c.range_checked.ensures
    ∙ rw (c.sign_unless_zero-s.ensures, c.power_sign.ensures, c.capped_pow-d.ensures, capped-pow)
    (power_is c.args.self c.args.k c.requires))
    (power_sound c.args.self c.args.k c.requires)
