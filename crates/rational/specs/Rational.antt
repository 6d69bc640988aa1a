-- Document 01, "Fractions and angles": the fractions. A fraction is a sign and two magnitudes; `proofs/SignedNumeratorLaws.antt` ties them to ℤ.
use Rattle.std.specs.Prelude.{Option, Some, None, ℕ, ◌+◌, ◌-◌, ◌*◌, ◌/◌, ◌%◌, ◌^◌, ◌<◌, ◌≡◌, Bool, true, false, not, ◌&&◌, cond, ltb, eqb, ℤ, pos, neg_ℤ}
use Rattle.std.specs.Bool.{beq}
use Rattle.rational.specs.Gcd.{gcd}
use Rattle.rational.specs.Root.{root}
use Rattle.rational.specs.declared.Rational64.{Rational64}

-- The first magnitude out of range.
abbrev pub magnitude_limit : ℕ
magnitude_limit = 2 ^ 63

-- "A fraction is n/d in lowest terms, d from 1 to 2^63-1, n from -(2^63-1) to 2^63-1." Zero has no sign.
pub record LowestTerms (x : Rational64) : Type 0 where
  pub positive : 0 < x.denom
  pub numer_fits : x.numer < magnitude_limit
  pub denom_fits : x.denom < magnitude_limit
  pub coprime : gcd x.numer x.denom ≡ 1
  pub zero_unsigned : x.numer ≡ 0 → x.negative ≡ false

-- Whether a magnitude is in range.
abbrev pub magnitude_in_range : ℕ → Bool
magnitude_in_range m = ltb m magnitude_limit

-- The integer ±n.
abbrev pub signed_integer : Bool → ℕ → ℤ
signed_integer true n = neg_ℤ (pos n)
signed_integer false n = pos n

-- The fraction ±n/d as it stands. Zero has no sign.
abbrev pub ratio : Bool → ℕ → ℕ → Rational64
ratio s n d = record { negative = s && ltb 0 n; numer = n; denom = d }

-- The fraction ±n/d "reduced".
abbrev pub reduced : Bool → ℕ → ℕ → Rational64
reduced s n d = ratio s (n / gcd n d) (d / gcd n d)

-- "overflow exactly if the reduced result leaves the range". An overflow is None.
abbrev pub checked : Rational64 → Option Rational64
checked x = cond (magnitude_in_range x.numer && magnitude_in_range x.denom) (Some x) None

-- Whether two signs differ, which is the sign of a product.
abbrev pub unlike : Bool → Bool → Bool
unlike true t = not t
unlike false t = t

-- The magnitude of ±p ± q. The first argument says whether the two signs differ.
abbrev pub sum_magnitude : Bool → ℕ → ℕ → ℕ
sum_magnitude true p q = p - q + (q - p)
sum_magnitude false p q = p + q

-- The sign of ±p ± q, which is that of the larger magnitude.
abbrev pub sum_sign : Bool → ℕ → Bool → ℕ → Bool
sum_sign s p t q = cond (ltb p q) t s

-- "l = b/g·d" with "g = gcd(b,d)": the common denominator of two fractions.
abbrev pub common_denominator : ℕ → ℕ → ℕ
common_denominator b d = b / gcd b d * d

-- Whether the four magnitudes of a sum are in range.
abbrev pub all_in_range : ℕ → ℕ → ℕ → ℕ → Bool
all_in_range l p q s = magnitude_in_range l && (magnitude_in_range p && (magnitude_in_range q && magnitude_in_range s))

-- "Sum of a/b and c/d: g = gcd(b,d), l = b/g·d, p = l/b·a, q = l/d·c, s = p+q, then s/l reduced. Overflow exactly if l, p, q or s leaves the range."
unfoldable pub fraction_sum : Rational64 → Rational64 → Option Rational64
fraction_sum x y =
    let l = common_denominator x.denom y.denom in
    let p = l / x.denom * x.numer in
    let q = l / y.denom * y.numer in
    let s = sum_magnitude (unlike x.negative y.negative) p q in
    cond (all_in_range l p q s) (Some (reduced (sum_sign x.negative p y.negative q) s l)) None

-- The fraction with the other sign.
abbrev pub opposite : Rational64 → Rational64
opposite y = ratio (not y.negative) y.numer y.denom

-- "Difference likewise." The difference is the sum with the opposite.
unfoldable pub difference : Rational64 → Rational64 → Option Rational64
difference x y = fraction_sum x (opposite y)

-- "Product, quotient, power: exact, overflow exactly if the reduced result leaves the range."
unfoldable pub product : Rational64 → Rational64 → Option Rational64
product x y = checked (reduced (unlike x.negative y.negative) (x.numer * y.numer) (x.denom * y.denom))

-- The reciprocal 1/y of a fraction y that is not 0.
abbrev pub reciprocal : Rational64 → Rational64
reciprocal y = record { negative = y.negative; numer = y.denom; denom = y.numer }

-- The quotient by a fraction y that is not 0.
unfoldable pub quotient : Rational64 → Rational64 → Option Rational64
quotient x y = checked (reduced (unlike x.negative y.negative) (x.numer * y.denom) (x.denom * y.numer))

-- The power with a whole exponent k; 0 to the power 0 is 1. The definition does not compute where k is huge.
unfoldable pub power : Rational64 → ℕ → Option Rational64
power x k = checked (reduced (x.negative && eqb (k % 2) 1) (x.numer ^ k) (x.denom ^ k))

-- The number r with r ^ k = n, if there is one, for k above 1.
unfoldable pub whole_root : ℕ → ℕ → Option ℕ
whole_root k n = cond (eqb (root k n ^ k) n) (Some (root k n)) None

-- The ratio of two roots, if both are whole.
abbrev pub root_ratio : Option ℕ → Option ℕ → Option Rational64
root_ratio (Some a) (Some b) = Some (ratio false a b)
root_ratio (Some a) None = None
root_ratio None b = None

-- The k-th root of a fraction for k above 1, if the fraction is not negative and both numerator and denominator have a whole k-th root.
unfoldable pub rational_root : ℕ → Rational64 → Option Rational64
rational_root k x = cond x.negative None (root_ratio (whole_root k x.numer) (whole_root k x.denom))

-- The fraction without its whole part, "toward zero".
abbrev pub fractional_part : Rational64 → Rational64
fractional_part x = ratio x.negative (x.numer % x.denom) x.denom

-- Whether a fraction is 0.
abbrev pub is_zero : Rational64 → Bool
is_zero x = eqb x.numer 0

-- Whether two fractions have the same sign, numerator and denominator.
abbrev pub same_fraction : Rational64 → Rational64 → Bool
same_fraction x y = beq x.negative y.negative && (eqb x.numer y.numer && eqb x.denom y.denom)

-- A further operation on a fraction, if there is one: an overflow stands.
abbrev pub and_then_option : Option Rational64 → (Rational64 → Option Rational64) → Option Rational64
and_then_option (Some x) op = op x
and_then_option None op = None

-- An operation on two fractions, if both are there: an overflow stands.
abbrev pub both : (Rational64 → Rational64 → Option Rational64) → Option Rational64 → Option Rational64 → Option Rational64
both op x y = and_then_option x (λ a. and_then_option y (λ b. op a b))
