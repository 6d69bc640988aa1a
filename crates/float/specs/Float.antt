-- Document 01, "Fractions and angles": what it says of f32. The f32 itself, its rounding to nearest with ties to even and its arithmetic are `lib.Ieee`.
use Rattle.std.specs.Prelude.{Option, None, ℕ, ◌*◌, ◌^◌, pos, Float}
use Rattle.std.specs.Float.{nan, inf, fin, binary32}
use Rattle.std.specs.Float.Ieee.{up, down, of_int, to_bits, div}
use Rattle.rational.specs.declared.Rational64.{Rational64}
use Rattle.rational.specs.Rational.{signed_integer, reduced, checked}

-- The first number that is not the bits of an f32.
abbrev pub float_bits_limit : ℕ
float_bits_limit = 2 ^ 32

-- The first whole number that has more binary digits than the significand of an f32.
abbrev pub significand_limit : ℕ
significand_limit = 2 ^ 24

-- The fraction of an f32: "the exact value of a finite f32, reduced; it fails exactly for infinities, NaN and values outside the range". A finite f32 is ±m·2^e.
unfoldable pub approximate_float : Float → Option Rational64
approximate_float nan = None
approximate_float (inf s) = None
approximate_float (fin s m e) = checked (reduced s (m * up e) (down e))

-- The bits of an f32: "A NaN is reported as hexadecimal 7FC00000."
unfoldable pub float_bits : Float → ℕ
float_bits nan = 0x7FC00000
float_bits (inf s) = to_bits binary32 (inf s)
float_bits (fin s m e) = to_bits binary32 (fin s m e)

-- The f32 of a fraction: "n and d each rounded to the nearest f32, ties to even; each n/d divided once".
unfoldable pub ratio_float : Rational64 → Float
ratio_float x = div binary32 (of_int binary32 (signed_integer x.negative x.numer)) (of_int binary32 (pos x.denom))
