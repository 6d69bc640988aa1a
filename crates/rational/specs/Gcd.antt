-- The greatest common divisor of two naturals. `proofs/GcdLaws.antt` proves that it divides both and that every common divisor divides it.
use Rattle.std.specs.Prelude.{ℕ, zero, suc, ◌%◌}

-- The result of Euclid's steps, at most as many as the first argument says.
unfoldable pub euclid : ℕ → ℕ → ℕ → ℕ
euclid zero a b = a
euclid (suc k) a zero = a
euclid (suc k) a (suc b) = euclid k (suc b) (a % suc b)

-- The greatest common divisor. The second number falls at each step, so b + 1 steps are enough; the definition computes at numerals of any size.
unfoldable pub gcd : ℕ → ℕ → ℕ
unfolding euclid
gcd a b = euclid (suc b) a b
