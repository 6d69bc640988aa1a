-- Nothing is known at first but constants, and there is a mark for each expression.
use native.Mathlib.Omega.{arith}
use Rattle.expression.proofs.KeptValuesLaws.{keeps_none}
use Rattle.expression.proofs.evaluate_entries.Goals as goal

pub evaluate-requires : goal.evaluate-requires
evaluate-requires g c = (c.requires.0.sound, c.requires.1, keeps_none _ _ g.row.N _ (omega (arith, c.requires.2, c.args.image.now.laid.expressions_is)) c.requires.0.constants)
