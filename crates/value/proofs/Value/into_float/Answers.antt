-- `Value::into_float` reads the bits of the f32 nearest to pi, which are no NaN's.
use lib.Ieee.{nan_bits}
use Rattle.value.proofs.Value.into_float.Goals as goal

pub float_from_bits-result : goal.float_from_bits-result
unfolding nan_bits
float_from_bits-result c = tt
