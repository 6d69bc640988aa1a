-- A refusal before the first record has its kind and the position where nothing is written.
use mathlib.Core.Path.{refl}
use Rattle.linearize.proofs.refused.Goals as goal

pub returns : goal.returns
returns c = rw c.start.ensures refl
