-- An evaluation's value is the angle, and any other evaluation is refused.
use native.Mathlib.Omega.{arith}
use Rattle.expression.proofs.EntryLaws.{inside}
use Rattle.expression.proofs.angle_of.Goals as goal

pub refused-requires : goal.refused-requires
refused-requires c = let h = inside c.args.image.now.words.now c.args.e c.requires.1 in (omega arith, c.in_default.not-Value)
