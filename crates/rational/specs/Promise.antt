-- What the functions of this crate promise of their results: the equation with the definition, and lowest terms.
use Rattle.std.specs.Prelude.{◌≡◌, Option, Some, None}
use Rattle.rational.specs.declared.Rational64.{Rational64}
use Rattle.rational.specs.Rational.{LowestTerms}

-- The fraction is in lowest terms and in range, if there is one.
abbrev pub SoundOption : Option Rational64 → Type 0
SoundOption (Some x) = LowestTerms x
SoundOption None = Unit {0}

-- The result of a checked operation is the one that is defined. That it is sound follows from the definitions, and spares callers that proof.
pub record ChecksTo (defined result : Option Rational64) : Type 0 where
  pub is : result ≡ defined
  pub sound : SoundOption result
