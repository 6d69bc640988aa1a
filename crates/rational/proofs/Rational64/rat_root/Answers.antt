-- `Rational64::rat_root` gives `rational_root`: it is absent for a negative fraction, and otherwise the ratio of the two whole roots.
use mathlib.Core.Path.{sym, ◌∙◌}
use native.Mathlib.Omega.{arith}
use Rattle.rational.specs.Rational.{rational_root}
use Rattle.rational.proofs.LowestTermsLaws.{checks_to}
use Rattle.rational.proofs.WholeRootLaws.{root_sound}
use Rattle.rational.proofs.Rational64.rat_root.Goals as goal

pub returns-then-self : goal.returns-then-self
unfolding rational_root
returns-then-self c = record { is = sym (rw c.if-self.true); sound = tt }

pub returns-in_err-n : goal.returns-in_err-n
unfolding rational_root
returns-in_err-n c = record { is = c.from_residual.ensures ∙ sym (rw (c.if-self.false, sym c.int_root.ensures ∙ c.in_err-n.was)); sound = rw c.from_residual.ensures tt }

pub returns-in_err-d : goal.returns-in_err-d
unfolding rational_root
returns-in_err-d c = let r = c.from_residual-in_err-d.ensures in
    record { is = r ∙ sym (rw (c.if-self.false, sym c.int_root.ensures ∙ c.in_ok-n.was, sym c.int_root-2.ensures ∙ c.in_err-d.was)); sound = rw r tt }

pub returns : goal.returns
unfolding rational_root
returns c = checks_to (sym (rw (c.if-self.false, sym c.int_root.ensures ∙ c.in_ok-n.was, sym c.int_root-2.ensures ∙ c.in_ok-d.was))) (root_sound c.args.self c.args.k c.requires.0 (omega arith))
