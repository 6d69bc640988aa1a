-- `Value::from_float` gives `from_float`: the exact value of an f32 as a rational angle.
use lib.Dec.{T}
use mathlib.Core.Path.{◌∙◌, subst, sym}
use Rattle.value.proofs.SoundLaws.{evaluates_to, from_float_sound}
use Rattle.value.specs.Value.{from_float}
use Rattle.value.proofs.Value.from_float.Goals as goal

pub returns-in-Some : goal.returns-in-Some
unfolding from_float
returns-in-Some c =
    evaluates_to (c.rational_value.ensures ∙ sym (rw (sym c.approximate_float.ensures.is ∙ c.in-Some.is))) (from_float_sound _ (subst T (sym c.well_formed.0.1) tt))
