-- `Value::pi` gives 0 + 1·pi, of which both parts are in lowest terms.
use mathlib.Core.Path.{refl}
use mathlib.Core.Bool.{false}
use Rattle.value.proofs.SoundLaws.{zero_lowest, one_lowest}
use Rattle.value.proofs.Value.pi.Goals as goal

pub returns : goal.returns
returns c = (refl, record { rational_part = zero_lowest; pi_part = one_lowest false })
