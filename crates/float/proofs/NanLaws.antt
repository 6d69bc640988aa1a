-- The library gives every NaN the bits hexadecimal 7FC00000, as document 01 does.
use mathlib.Core.Path.{◌≡◌, refl, sym, subst}
use mathlib.Core.Bool.{true}
use lib.Dec.{T}
use lib.Ieee.Compare.{differs_from_itself}
use lib.Ieee.{Float, nan, inf, fin, ne, binary32, to_bits}
use Rattle.float.specs.Float.{float_bits}

pub is_nan_lem : (x : Float) → ne x x ≡ true → x ≡ nan
is_nan_lem x e = differs_from_itself x (subst T (sym e) tt)

pub bits_is : (x : Float) → to_bits binary32 x ≡ float_bits x
unfolding float_bits to_bits
bits_is nan = refl
bits_is (inf s) = refl
bits_is (fin s m e) = refl
