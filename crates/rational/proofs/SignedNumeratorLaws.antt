-- The sum, difference, product and quotient of fractions are those of signed integers, and a fraction has one form in lowest terms.
use mathlib.Core.Path.{◌≡◌, refl, sym, ap, ◌∙◌, subst}
use mathlib.Core.Bool.{Bool, true, false, not, cond, ◌&&◌}
use Prim.Native.Nat.{ℕ, zero, suc, ◌+◌, ◌-◌, ◌*◌, ◌/◌, ◌<◌}
use native.Mathlib.Nat.{mul_comm, mul-sub, mul-add, mul-pos, mul-div_cancel', div-eq_of_eq-mul_right, mul-lt-mul_of_pos_left, mul-le-mul_left, mul-zero, zero-mul, zero-lt-suc, lt_irrefl}
use native.Mathlib.Omega.{arith}
use lib.Dec.{ltb}
use lib.IntN.{ℤ, pos, negsuc, neg_ℤ, nat_abs, pos-ne-negsuc, ◌+ℤ◌, ◌*ℤ◌, neg_ℤ-+ℤ, +ℤ_comm}
use borrow.Author.Tests.{ltb-true, ltb-false, lt-ltb, le-ltb}
use Rattle.rational.specs.Gcd.{gcd}
use Rattle.rational.specs.Rational.{LowestTerms, magnitude_in_range, signed_integer, reduced, unlike, sum_magnitude, sum_sign, common_denominator, all_in_range, fraction_sum, opposite, difference, product, quotient}
use Rattle.rational.specs.declared.Rational64.{Rational64}
use Rattle.std.specs.Prelude.{Some, None}
use Rattle.rational.proofs.GcdLaws.{gcd_dvd_left, gcd_dvd_right, gcd_pos, lowest_unique}
use Rattle.rational.proofs.LowestTermsLaws.{opposite_lowest}

-- ---- the size and the sign that the sum's steps give are those of the sum of two integers
same : (b s : Bool) → cond b s s ≡ s
same true s = refl
same false s = refl

-- The magnitude and the sign of p - q are those of the difference of two integers.
less : (p q : ℕ) → signed_integer (cond (ltb p q) true false) (p - q + (q - p)) ≡ pos p +ℤ neg_ℤ (pos q)
less p zero = ap (λ (b : Bool). signed_integer (cond b true false) (p - 0 + (0 - p))) (le-ltb p 0 (omega arith)) ∙ ap pos (flat p)
  where
    flat : (p : ℕ) → p - 0 + (0 - p) ≡ p + 0
    flat p = omega arith
less p (suc q) = go (ltb p (suc q)) refl
  where
    go : (b : Bool) → ltb p (suc q) ≡ b → signed_integer (cond (ltb p (suc q)) true false) (p - suc q + (suc q - p)) ≡ cond (ltb p (suc q)) (negsuc (suc q - suc p)) (pos (p - suc q))
    go true e = let h : p - suc q + (suc q - p) ≡ suc (suc q - suc p) = omega (arith, ltb-true p (suc q) e) in rw (e, h)
    go false e = let h : p - suc q + (suc q - p) ≡ p - suc q = omega (arith, ltb-false p (suc q) e) in rw (e, h)

more : (p q : ℕ) → signed_integer (cond (ltb p q) false true) (p - q + (q - p)) ≡ neg_ℤ (pos p) +ℤ pos q
more p q = go (ltb p q) refl
  where
    opposite : (p q : ℕ) → p - q + (q - p) ≡ q - p + (p - q)
    opposite p q = omega arith

    go : (b : Bool) → ltb p q ≡ b → signed_integer (cond (ltb p q) false true) (p - q + (q - p)) ≡ neg_ℤ (pos p) +ℤ pos q
    go true e =
        let h : ltb q p ≡ false = le-ltb q p (omega (arith, ltb-true p q e)) in
        rw e (ap pos (opposite p q) ∙ sym (ap (λ (b : Bool). signed_integer (cond b true false) (q - p + (p - q))) h) ∙ less q p ∙ +ℤ_comm (pos q) (neg_ℤ (pos p)))
    go false e = rw e (ap (λ (n : ℕ). neg_ℤ (pos n)) (opposite p q) ∙ at (ltb q p) refl)
      where
        at : (b : Bool) → ltb q p ≡ b → neg_ℤ (pos (q - p + (p - q))) ≡ neg_ℤ (pos p) +ℤ pos q
        at true g = sym (ap (λ (b : Bool). signed_integer (cond b true false) (q - p + (p - q))) g) ∙ less q p ∙ +ℤ_comm (pos q) (neg_ℤ (pos p))
        at false g =
            let z : q - p + (p - q) ≡ 0 = omega (arith, ltb-false q p g, ltb-false p q e) in
            ap (λ (n : ℕ). neg_ℤ (pos n)) z ∙ sym (ap pos z) ∙ sym (ap (λ (b : Bool). signed_integer (cond b true false) (q - p + (p - q))) g) ∙ less q p ∙ +ℤ_comm (pos q) (neg_ℤ (pos p))

signed_sum : (s t : Bool) (p q : ℕ) → signed_integer (sum_sign s p t q) (sum_magnitude (unlike s t) p q) ≡ signed_integer s p +ℤ signed_integer t q
signed_sum false false p q = ap (λ (b : Bool). signed_integer b (p + q)) (same (ltb p q) false)
signed_sum true true p q = ap (λ (b : Bool). signed_integer b (p + q)) (same (ltb p q) true) ∙ neg_ℤ-+ℤ (pos p) (pos q)
signed_sum false true p q = less p q
signed_sum true false p q = more p q

-- ---- products of signed numbers
no_sign : (k : ℕ) → k ≡ 0 → pos k ≡ neg_ℤ (pos k)
no_sign k e = rw e refl

either_sign : (s t : Bool) (k : ℕ) → k ≡ 0 → signed_integer s k ≡ signed_integer t k
either_sign true true k e = refl
either_sign true false k e = sym (no_sign k e)
either_sign false true k e = no_sign k e
either_sign false false k e = refl

signed_integer_times : (s : Bool) (n m : ℕ) → signed_integer s n *ℤ pos m ≡ signed_integer s (n * m)
signed_integer_times false n m = refl
signed_integer_times true zero m = no_sign (0 * m) (zero-mul m)
signed_integer_times true (suc n) m = refl

pub signed_integer_product : (s t : Bool) (n m : ℕ) → signed_integer s n *ℤ signed_integer t m ≡ signed_integer (unlike s t) (n * m)
signed_integer_product false false n m = refl
signed_integer_product true false n m = signed_integer_times true n m
signed_integer_product false true n zero = no_sign (n * 0) (mul-zero n)
signed_integer_product false true n (suc m) = refl
signed_integer_product true true zero zero = refl
signed_integer_product true true zero (suc m) = sym (no_sign (0 * suc m) (zero-mul (suc m)))
signed_integer_product true true (suc n) zero = sym (no_sign (suc n * 0) (mul-zero (suc n)))
signed_integer_product true true (suc n) (suc m) = refl

-- A sign that zero drops changes no product.
signed_integer_unsigned : (s : Bool) (k m : ℕ) → signed_integer (s && ltb 0 k) (k * m) ≡ signed_integer s (k * m)
signed_integer_unsigned false k m = refl
signed_integer_unsigned true zero m = no_sign (0 * m) (zero-mul m)
signed_integer_unsigned true (suc k) m = rw (lt-ltb 0 (suc k) (zero-lt-suc k)) refl

-- ---- a fraction's numerator, with its sign
abbrev pub signed_numerator : Rational64 → ℤ
signed_numerator x = signed_integer x.negative x.numer

-- The numerator of a reduced fraction times m is a signed number of magnitude w.
reduced_is : (s : Bool) (n d m w : ℕ) → n / gcd n d * m ≡ w → signed_numerator (reduced s n d) *ℤ pos m ≡ signed_integer s w
reduced_is s n d m w e = signed_integer_times (s && ltb 0 (n / gcd n d)) (n / gcd n d) m ∙ signed_integer_unsigned s (n / gcd n d) m ∙ ap (signed_integer s) e

-- The products n/g · d and n · (d/g), with g the greatest common divisor, are the same.
crosswise : (n d : ℕ) → n / gcd n d * d ≡ n * (d / gcd n d)
crosswise n d =
    let g = gcd n d in
    let p : g * (n / g) ≡ n = mul-div_cancel' g (gcd_dvd_left n d) in
    let q : g * (d / g) ≡ d = mul-div_cancel' g (gcd_dvd_right n d) in
    across (n / g) (d / g) g n d p q
  where
    across : (k e g n d : ℕ) → g * k ≡ n → g * e ≡ d → k * d ≡ n * e
    across k e g n d p q = rw (← p, ← q) (omega arith)

only : (b : Bool) (x r : Rational64) → cond b (Some x) None ≡ Some r → x ≡ r
only true x r e = cc
only false x r e = absurd (let z : ◌≡◌ {A = ℕ} 0 1 = cc in omega arith)

-- If r is the product of x and y, its numerator over its denominator is the product of the numerators over that of the denominators.
pub product_integers : (x y r : Rational64) → product x y ≡ Some r → signed_numerator r *ℤ pos (x.denom * y.denom) ≡ signed_numerator x *ℤ signed_numerator y *ℤ pos r.denom
unfolding product
product_integers x y r e =
    let s = unlike x.negative y.negative in
    let n = x.numer * y.numer in
    let d = x.denom * y.denom in
    subst (λ (z : Rational64). signed_numerator z *ℤ pos d ≡ signed_numerator x *ℤ signed_numerator y *ℤ pos z.denom) (only (magnitude_in_range (n / gcd n d) && magnitude_in_range (d / gcd n d)) (reduced s n d) r e)
    (reduced_is s n d d (n * (d / gcd n d)) (crosswise n d)
    ∙ sym (signed_integer_times s n (d / gcd n d))
    ∙ ap (λ (z : ℤ). z *ℤ pos (d / gcd n d)) (sym (signed_integer_product x.negative y.negative x.numer y.numer)))

-- If r is the quotient of x by y, then r times y is x.
pub quotient_integers : (x y r : Rational64) → quotient x y ≡ Some r → signed_numerator r *ℤ (pos x.denom *ℤ signed_numerator y) ≡ signed_numerator x *ℤ pos y.denom *ℤ pos r.denom
unfolding quotient
quotient_integers x y r e =
    let s = unlike x.negative y.negative in
    let n = x.numer * y.denom in
    let d = x.denom * y.numer in
    let k = n / gcd n d in
    subst (λ (z : Rational64). signed_numerator z *ℤ (pos x.denom *ℤ signed_numerator y) ≡ signed_numerator x *ℤ pos y.denom *ℤ pos z.denom) (only (magnitude_in_range (n / gcd n d) && magnitude_in_range (d / gcd n d)) (reduced s n d) r e)
    (ap (λ (z : ℤ). signed_numerator (reduced s n d) *ℤ z) (signed_integer_product false y.negative x.denom y.numer)
    ∙ signed_integer_product (s && ltb 0 k) y.negative k d
    ∙ signs x.negative y.negative k d
    ∙ ap (signed_integer x.negative) (crosswise n d)
    ∙ sym (signed_integer_times x.negative n (d / gcd n d))
    ∙ ap (λ (z : ℤ). z *ℤ pos (d / gcd n d)) (sym (signed_integer_times x.negative x.numer y.denom)))
  where
    undone : (s t : Bool) → unlike (unlike s t && true) t ≡ s
    undone true true = refl
    undone true false = refl
    undone false true = refl
    undone false false = refl

    signs : (s t : Bool) (k d : ℕ) → signed_integer (unlike (unlike s t && ltb 0 k) t) (k * d) ≡ signed_integer s (k * d)
    signs s t zero d = either_sign (unlike (unlike s t && false) t) s (0 * d) (zero-mul d)
    signs s t (suc k) d = rw (lt-ltb 0 (suc k) (zero-lt-suc k)) (ap (λ (b : Bool). signed_integer b (suc k * d)) (undone s t))

-- ---- the sum
magnitude_times : (u : Bool) (k p q : ℕ) → sum_magnitude u (k * p) (k * q) ≡ k * sum_magnitude u p q
magnitude_times true k p q = ap (λ (z : ℕ). z + (k * q - k * p)) (sym (mul-sub k p q)) ∙ ap (λ (z : ℕ). k * (p - q) + z) (sym (mul-sub k q p)) ∙ sym (mul-add k (p - q) (q - p))
magnitude_times false k p q = sym (mul-add k p q)

ltb_times : (k p q : ℕ) → 0 < k → ltb (k * p) (k * q) ≡ ltb p q
ltb_times k p q h = go (ltb p q) refl
  where
    go : (b : Bool) → ltb p q ≡ b → ltb (k * p) (k * q) ≡ b
    go true e = lt-ltb (k * p) (k * q) (mul-lt-mul_of_pos_left (ltb-true p q e) h)
    go false e = le-ltb (k * p) (k * q) (mul-le-mul_left k (ltb-false p q e))

-- A common factor k comes out of the sum ±k·p ± k·q.
scaled : (s t : Bool) (k p q : ℕ) → 0 < k → signed_integer s (k * p) +ℤ signed_integer t (k * q) ≡ signed_integer (sum_sign s p t q) (k * sum_magnitude (unlike s t) p q)
scaled s t k p q h =
    sym (signed_sum s t (k * p) (k * q))
    ∙ ap (λ (b : Bool). signed_integer (cond b t s) (sum_magnitude (unlike s t) (k * p) (k * q))) (ltb_times k p q h)
    ∙ ap (signed_integer (sum_sign s p t q)) (magnitude_times (unlike s t) k p q)

-- If r is the sum of x and y, it is their sum over ℤ.
pub sum_integers : (x y r : Rational64) → LowestTerms x → LowestTerms y → fraction_sum x y ≡ Some r
    → signed_numerator r *ℤ pos (x.denom * y.denom) ≡ (signed_numerator x *ℤ pos y.denom +ℤ signed_numerator y *ℤ pos x.denom) *ℤ pos r.denom
unfolding fraction_sum
sum_integers x y r px py e =
    let b = x.denom in
    let d = y.denom in
    let g = gcd b d in
    let gp : 0 < g = gcd_pos b d py.positive in
    let eb : g * (b / g) ≡ b = mul-div_cancel' g (gcd_dvd_left b d) in
    let ed : g * (d / g) ≡ d = mul-div_cancel' g (gcd_dvd_right b d) in
    let l = common_denominator b d in
    let p = l / b * x.numer in
    let q = l / d * y.numer in
    let m = sum_magnitude (unlike x.negative y.negative) p q in
    let s = sum_sign x.negative p y.negative q in
    let lb : l / b ≡ d / g = div-eq_of_eq-mul_right px.positive (left (b / g) (d / g) g b d eb ed) in
    let ld : l / d ≡ b / g = div-eq_of_eq-mul_right py.positive (mul_comm (b / g) d) in
    let ep : x.numer * d ≡ g * p = rw lb (across x.numer (d / g) g d ed) in
    let eq : y.numer * b ≡ g * q = rw ld (across y.numer (b / g) g b eb) in
    subst (λ (z : Rational64). signed_numerator z *ℤ pos (b * d) ≡ (signed_numerator x *ℤ pos d +ℤ signed_numerator y *ℤ pos b) *ℤ pos z.denom) (only (all_in_range l p q m) (reduced s m l) r e)
    (reduced_is s m l (b * d) (g * m * (l / gcd m l)) (whole (m / gcd m l) (l / gcd m l) m l g (b / g) b d (crosswise m l) eb)
    ∙ sym (signed_integer_times s (g * m) (l / gcd m l))
    ∙ ap (λ (z : ℤ). z *ℤ pos (l / gcd m l))
    (sym (scaled x.negative y.negative g p q gp)
    ∙ ap (λ (z : ℕ). signed_integer x.negative z +ℤ signed_integer y.negative (g * q)) (sym ep)
    ∙ ap (λ (z : ℕ). signed_integer x.negative (x.numer * d) +ℤ signed_integer y.negative z) (sym eq)
    ∙ ap (λ (z : ℤ). z +ℤ signed_integer y.negative (y.numer * b)) (sym (signed_integer_times x.negative x.numer d))
    ∙ ap (λ (z : ℤ). signed_numerator x *ℤ pos d +ℤ z) (sym (signed_integer_times y.negative y.numer b))))
  where
    left : (B D g b d : ℕ) → g * B ≡ b → g * D ≡ d → B * d ≡ b * D
    left B D g b d p q = rw (← p, ← q) (omega arith)

    across : (a D g d : ℕ) → g * D ≡ d → a * d ≡ g * (D * a)
    across a D g d p = rw (← p) (omega arith)

    whole : (k e m l g B b d : ℕ) → k * (B * d) ≡ m * e → g * B ≡ b → k * (b * d) ≡ g * m * e
    whole k e m l g B b d p q = rw (← q) (omega (arith, ap (λ (z : ℕ). g * z) p))

-- The numerator of the opposite has the other sign.
pub opposite_integers : (y : Rational64) → LowestTerms y → signed_numerator (opposite y) ≡ neg_ℤ (signed_numerator y)
opposite_integers y l = go y.negative y.numer
  where
    go : (s : Bool) (n : ℕ) → signed_integer (not s && ltb 0 n) n ≡ neg_ℤ (signed_integer s n)
    go true zero = refl
    go true (suc n) = refl
    go false zero = refl
    go false (suc n) = rw (lt-ltb 0 (suc n) (zero-lt-suc n)) refl

-- If r is the difference of x and y, it is their difference over ℤ.
pub difference_integers : (x y r : Rational64) → LowestTerms x → LowestTerms y → difference x y ≡ Some r
    → signed_numerator r *ℤ pos (x.denom * y.denom) ≡ (signed_numerator x *ℤ pos y.denom +ℤ neg_ℤ (signed_numerator y) *ℤ pos x.denom) *ℤ pos r.denom
unfolding difference
difference_integers x y r px py e =
    subst (λ (z : ℤ). signed_numerator r *ℤ pos (x.denom * y.denom) ≡ (signed_numerator x *ℤ pos y.denom +ℤ z *ℤ pos x.denom) *ℤ pos r.denom) (opposite_integers y py)
    (sum_integers x (opposite y) r px (opposite_lowest y py) e)

-- ---- lowest terms are unique
size_of : (s : Bool) (n : ℕ) → nat_abs (signed_integer s n) ≡ n
size_of true zero = refl
size_of true (suc n) = refl
size_of false n = refl

sign_of_number : (s t : Bool) (k : ℕ) → 0 < k → signed_integer s k ≡ signed_integer t k → s ≡ t
sign_of_number s t zero h e = absurd (lt_irrefl 0 h)
sign_of_number true true (suc k) h e = refl
sign_of_number true false (suc k) h e = absurd (pos-ne-negsuc (suc k) k (sym e))
sign_of_number false true (suc k) h e = absurd (pos-ne-negsuc (suc k) k e)
sign_of_number false false (suc k) h e = refl

same_fields : (s t : Bool) (n m d e : ℕ) → s ≡ t → n ≡ m → d ≡ e → ◌≡◌ {A = Rational64} (record { negative = s; numer = n; denom = d }) (record { negative = t; numer = m; denom = e })
same_fields s t n m d e p q r = rw (p, q, r)

-- Two fractions of the same value are the same fraction.
pub unique : (x y : Rational64) → LowestTerms x → LowestTerms y → signed_numerator x *ℤ pos y.denom ≡ signed_numerator y *ℤ pos x.denom → x ≡ y
unique x y p q e =
    same_fields x.negative y.negative x.numer y.numer x.denom y.denom (signs x.numer refl) parts.0 parts.1
  where
    products : signed_integer x.negative (x.numer * y.denom) ≡ signed_integer y.negative (y.numer * x.denom)
    products = sym (signed_integer_times x.negative x.numer y.denom) ∙ e ∙ signed_integer_times y.negative y.numer x.denom

    cross : x.numer * y.denom ≡ y.numer * x.denom
    cross = sym (size_of x.negative (x.numer * y.denom)) ∙ ap nat_abs products ∙ size_of y.negative (y.numer * x.denom)

    parts : (x.numer ≡ y.numer) × (x.denom ≡ y.denom)
    parts = lowest_unique x.numer x.denom y.numer y.denom p.positive p.coprime q.coprime cross

    signs : (n : ℕ) → x.numer ≡ n → x.negative ≡ y.negative
    signs zero z = p.zero_unsigned z ∙ sym (q.zero_unsigned (sym parts.0 ∙ z))
    signs (suc n) z =
        sign_of_number x.negative y.negative (x.numer * y.denom) (mul-pos (subst (λ (m : ℕ). 0 < m) (sym z) (zero-lt-suc n)) q.positive)
        (products ∙ ap (signed_integer y.negative) (sym cross))
