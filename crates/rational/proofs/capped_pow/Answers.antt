-- `capped_pow` gives the power capped at the limit: an exponent above 63 makes no difference there.
use Rattle.rational.proofs.CappedLaws.{power_capped}
use Rattle.rational.proofs.capped_pow.Goals as goal

pub returns : goal.returns
returns c = cc (power_capped c.args.b c.args.k)
