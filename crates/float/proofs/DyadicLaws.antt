-- A fraction over 2 ^ 149 that is halved while it can be is in reduced terms.
use mathlib.Core.Path.{◌≡◌, sym, ap, ◌∙◌}
use mathlib.Core.Bool.{Bool, ◌&&◌}
use Prim.Native.Nat.{ℕ, ◌-◌, ◌*◌, ◌%◌, ◌≤◌, ◌<◌, ◌^◌, min}
use native.Mathlib.Omega.{arith}
use lib.Dec.{ltb}
use Rattle.float.proofs.PowerOfTwoLaws.{low_odd, low_whole}
use Rattle.rational.proofs.CappedLaws.{min_mul}
use Rattle.rational.specs.Rational.{ratio, reduced, checked}
use Rattle.rational.proofs.ProductLaws.{checked_min}

pub whole_is : (neg s : Bool) (a m j n p : ℕ) → 149 ≤ j → m * 2 ^ j ≡ a → p ≡ min (2 ^ (j - 149)) (2 ^ 63) → n ≡ min (m * p) (2 ^ 63) → s ≡ (neg && ltb 0 n)
    → checked (record { negative = s; numer = n; denom = 1 }) ≡ checked (reduced neg a (2 ^ 149))
whole_is neg s a m j n p h ea ep en es =
    let e = low_whole a m j 149 h ea in
    rw (es, en, ep, min_mul) (checked_min neg (m * 2 ^ (j - 149)) 1 ∙ sym (rw (e.0, e.1)))

pub odd_is : (neg s : Bool) (a m j p : ℕ) → m % 2 ≡ 1 → j ≤ 149 → m * 2 ^ j ≡ a → m < 2 ^ 63 → p ≡ min (2 ^ (149 - j)) (2 ^ 63) → s ≡ (neg && ltb 0 m)
    → checked (record { negative = s; numer = m; denom = p }) ≡ checked (reduced neg a (2 ^ 149))
odd_is neg s a m j p o h ea l ep es =
    let e = low_odd a m j 149 o h ea in
    let k : min m (2 ^ 63) ≡ m = omega arith in
    rw (es, ep) (ap (λ (z : ℕ). checked (ratio neg z (min (2 ^ (149 - j)) (2 ^ 63)))) (sym k) ∙ checked_min neg m (2 ^ (149 - j)) ∙ sym (rw (e.0, e.1)))
