-- The angle 0 is in lowest terms.
use mathlib.Core.Path.{refl}
use Rattle.model.proofs.AnglesSound.{zero_sound}
use Rattle.expression.proofs.zero.Goals as goal

pub returns : goal.returns
returns c = (refl, zero_sound)
