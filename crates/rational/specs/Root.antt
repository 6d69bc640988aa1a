-- The whole part of a k-th root, k above 0. `proofs/RootLaws.antt` proves that it is the one r with r ^ k ≤ n < (r + 1) ^ k.
use Rattle.std.specs.Prelude.{ℕ, zero, suc, ◌+◌, ◌*◌, ◌/◌, ◌^◌, cond, leb}

-- The binary digits of the root, at most as many as the first argument says: twice the root of n without its last k binary digits, or one more.
unfoldable pub root_digits : ℕ → ℕ → ℕ → ℕ
root_digits zero k n = 0
root_digits (suc f) k zero = 0
root_digits (suc f) k (suc n) = let r = 2 * root_digits f k (suc n / 2 ^ k) in cond (leb ((r + 1) ^ k) (suc n)) (r + 1) r

-- The whole part of the k-th root of n. The definition computes at numerals n of any size, where k is not huge.
unfoldable pub root : ℕ → ℕ → ℕ
unfolding root_digits
root k n = root_digits n k n
