-- `ratio_f32` gives the quotient of the two nearest f32, with the sign on the numerator.
use mathlib.Core.Path.{ap}
use lib.IntN.{pos}
use lib.Ieee.{Float, binary32, div, of_int}
use Rattle.float.specs.Float.{ratio_float}
use Rattle.rational.proofs.LowestTermsLaws.{nonzero}
use Rattle.float.proofs.RoundLaws.{neg_of_int}
use Rattle.float.proofs.ratio_f32.Goals as goal

pub returns-then-x : goal.returns-then-x
unfolding ratio_float
returns-then-x c = rw (c.nearest_f32-n.ensures, c.nearest_f32-d.ensures, c.if-x.true)
    (ap (λ (x : Float). div binary32 x (of_int binary32 (pos c.args.x.denom))) (neg_of_int binary32 c.args.x.numer (nonzero c.requires c.if-x.true)))

pub returns-else-x : goal.returns-else-x
unfolding ratio_float
returns-else-x c = rw (c.nearest_f32-n.ensures, c.nearest_f32-d.ensures, c.if-x.false)
