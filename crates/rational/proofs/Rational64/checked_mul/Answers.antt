-- `Rational64::checked_mul` gives `product`: numerators and denominators that are reduced crosswise are those of the reduced product.
use mathlib.Core.Path.{◌∙◌}
use Rattle.rational.proofs.SumLaws.{unlike_is}
use Rattle.rational.proofs.ProductLaws.{product_is}
use Rattle.rational.proofs.LowestTermsLaws.{checks_to, product_sound}
use Rattle.rational.proofs.Rational64.checked_mul.Goals as goal

pub returns : goal.returns
returns c = let gcd = c.gcd-g in
    let gcd2 = c.gcd-h in
    let capped-mul = c.capped_mul-n in
    let capped-mul2 = c.capped_mul-d in
    checks_to (c.range_checked.ensures
    ∙ product_is c.args.self c.args.y gcd.result gcd2.result capped-mul.result capped-mul2.result _ c.sign_unless_zero-s.result
    c.requires.0 c.requires.1 gcd.ensures gcd2.ensures capped-mul.ensures capped-mul2.ensures (unlike_is _ _) c.sign_unless_zero-s.ensures)
    (product_sound c.args.self c.args.y c.requires.0 c.requires.1)
