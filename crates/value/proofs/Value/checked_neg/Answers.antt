-- `Value::checked_neg` gives `negation`: the product with -1.
use mathlib.Core.Bool.{true}
use Rattle.value.proofs.SoundLaws.{zero_lowest, one_lowest}
use Rattle.value.proofs.Value.checked_neg.Goals as goal

pub checked_mul-requires : goal.checked_mul-requires
checked_mul-requires c = (c.requires, record { rational_part = one_lowest true; pi_part = zero_lowest })
