-- For a reader who doubts `round`: no value of the format is nearer to the fraction that is rounded, and of two that are as near the even one is taken.
-- Sizes are counted in units of the format's smallest value, 2 ^ -149 for an f32. Every sum, product and quotient of floats, and every whole number made a float, is `round` of the exact fraction.
use mathlib.Core.Path.{◌≡◌, refl, sym, ap, ◌∙◌, subst}
use mathlib.Core.Bool.{Bool, true, false, ◌&&◌}
use mathlib.Core.Logic.{◌⊎◌, inl, inr}
use Prim.Native.Nat.{ℕ, zero, suc, ◌+◌, ◌-◌, ◌*◌, ◌/◌, ◌%◌, ◌^◌, ◌≤◌, ◌<◌, ◌∣◌, compare, Ordering}
use native.Mathlib.Nat.{zero-lt-suc, le_refl, le_trans, le_of_eq, le_of_lt, lt_irrefl, le_of_suc-le-suc, lt_of_lt_of_le, lt_of_not-le, mul_assoc, mul-one, mul-pos, mul-le-mul_right, mul-lt-mul_of_pos_right, eq_of_mul-eq-mul_right, mod-lt, div-add-mod', div-mul_cancel, dvd-mul_left, le-div_iff_mul-le}
use native.Mathlib.Omega.{arith}
use lib.IntN.{ℤ, pos, negsuc}
use lib.Dec.{T, ltb, leb, eqb, is_le, compare_is_eq, leb→le, ltb→lt}
use lib.Pow.{pow-add, pow_pos, pow_mono, pow-lt}
use borrow.Author.Tests.{ltb-true, ltb-false, leb-true, leb-false, le-leb, lt-leb, eq-eqb, ne_eqb}
use lib.Ieee.{Float, nan, inf, fin, Format, prec, emax, low, up, down, size, nearest, fits}
use lib.Ieee.Digits.{size_reaches}
use lib.Ieee.Fits.{two, two-le_pos, and_l, and_r, down_pos}
use lib.Ieee.Exact.{HasValue}
use lib.Ieee.Nearest.{closest}
use lib.Ieee.Order.{drop, kept}
use lib.Ieee.Scale.{grid}

-- ---- how two numbers compare
pub compare_lt : (a b : ℕ) → a < b → compare a b ≡ Ordering.lt
compare_lt a b h = go (compare a b) (le-leb a b (le_of_lt h)) (ne_eqb a b (omega arith))
  where
    go : (o : Ordering) → is_le o ≡ true → compare_is_eq o ≡ false → o ≡ Ordering.lt
    go Ordering.lt p q = refl
    go Ordering.eq p q = cc
    go Ordering.gt p q = cc

pub compare_eq : (a b : ℕ) → a ≡ b → compare a b ≡ Ordering.eq
compare_eq a b h = go (compare a b) (eq-eqb a b h)
  where
    go : (o : Ordering) → compare_is_eq o ≡ true → o ≡ Ordering.eq
    go Ordering.lt q = cc
    go Ordering.eq q = refl
    go Ordering.gt q = cc

pub compare_gt : (a b : ℕ) → b < a → compare a b ≡ Ordering.gt
compare_gt a b h = go (compare a b) (lt-leb a b h)
  where
    go : (o : Ordering) → is_le o ≡ false → o ≡ Ordering.gt
    go Ordering.lt q = cc
    go Ordering.eq q = cc
    go Ordering.gt q = refl

-- How far two numbers are apart. One of the two differences is 0.
abbrev pub distance : ℕ → ℕ → ℕ
distance x y = x - y + (y - x)

-- ---- no whole number is nearer to n / u than `closest n u`
side : (A W C u r : ℕ) → r < u → (W ≤ A) ⊎ (A + u ≤ W) → ((C ≡ A) × (r * 2 ≤ u)) ⊎ ((C ≡ A + u) × (u ≤ r * 2)) → distance C (A + r) ≤ distance W (A + r)
side A W C u r h (inl p) (inl q) = let e = q.0 in let f = q.1 in omega arith
side A W C u r h (inl p) (inr q) = let e = q.0 in let f = q.1 in omega arith
side A W C u r h (inr p) (inl q) = let e = q.0 in let f = q.1 in omega arith
side A W C u r h (inr p) (inr q) = let e = q.0 in let f = q.1 in omega arith

where_is : (q w u : ℕ) → (w * u ≤ q * u) ⊎ (q * u + u ≤ w * u)
where_is q w u = go (leb w q) refl
  where
    next : (q u : ℕ) → suc q * u ≡ q * u + u
    next q u = omega arith

    go : (b : Bool) → leb w q ≡ b → (w * u ≤ q * u) ⊎ (q * u + u ≤ w * u)
    go true e = inl (mul-le-mul_right u (leb-true w q e))
    go false e = inr (le_trans (le_of_eq (sym (next q u))) (mul-le-mul_right u (leb-false w q e)))

taken : (q u r : ℕ) → ((nearest q (compare (r * 2) u) * u ≡ q * u) × (r * 2 ≤ u)) ⊎ ((nearest q (compare (r * 2) u) * u ≡ q * u + u) × (u ≤ r * 2))
taken q u r = go (ltb (r * 2) u) (ltb u (r * 2)) refl refl
  where
    next : (q u : ℕ) → suc q * u ≡ q * u + u
    next q u = omega arith

    tie : (b : ℕ) → q % 2 ≡ b → u ≡ r * 2 → ((nearest q (compare (r * 2) u) * u ≡ q * u) × (r * 2 ≤ u)) ⊎ ((nearest q (compare (r * 2) u) * u ≡ q * u + u) × (u ≤ r * 2))
    tie zero e h = inl (rw (compare_eq (r * 2) u (sym h), e) (plain q u), le_of_eq (sym h))
      where
        plain : (q u : ℕ) → (q + 0) * u ≡ q * u
        plain q u = omega arith
    tie (suc zero) e h = inr (rw (compare_eq (r * 2) u (sym h), e) (more q u), le_of_eq h)
      where
        more : (q u : ℕ) → (q + 1) * u ≡ q * u + u
        more q u = omega arith
    tie (suc (suc b)) e h = absurd (no q b e)
      where
        no : (q b : ℕ) → q % 2 ≡ suc (suc b) → ⊥
        no q b e = omega arith

    go : (a b : Bool) → ltb (r * 2) u ≡ a → ltb u (r * 2) ≡ b → ((nearest q (compare (r * 2) u) * u ≡ q * u) × (r * 2 ≤ u)) ⊎ ((nearest q (compare (r * 2) u) * u ≡ q * u + u) × (u ≤ r * 2))
    go true b e f = inl (rw (compare_lt (r * 2) u (ltb-true (r * 2) u e)) refl, le_of_lt (ltb-true (r * 2) u e))
    go false true e f = inr (rw (compare_gt (r * 2) u (ltb-true u (r * 2) f)) (next q u), le_of_lt (ltb-true u (r * 2) f))
    go false false e f = tie (q % 2) refl (meet (r * 2) u (ltb-false (r * 2) u e) (ltb-false u (r * 2) f))
      where
        meet : (x u : ℕ) → u ≤ x → x ≤ u → u ≡ x
        meet x u p q = omega arith

pub closest_nearest : (n u w : ℕ) → 0 < u → distance (closest n u * u) n ≤ distance (w * u) n
closest_nearest n u w h =
    subst (λ (z : ℕ). distance (closest n u * u) z ≤ distance (w * u) z) (div-add-mod' n u)
    (side (n / u * u) (w * u) (closest n u * u) u (n % u) (mod-lt n h) (where_is (n / u) w u) (taken (n / u) u (n % u)))

-- The number nearest to a quotient that lies in the middle is even: "ties to even".
pub closest_even : (n u : ℕ) → n % u * 2 ≡ u → closest n u % 2 ≡ 0
closest_even n u e = rw (compare_eq (n % u * 2) u e) (even (n / u))
  where
    even : (q : ℕ) → (q + q % 2) % 2 ≡ 0
    even q = omega arith

-- ---- a value of 2 ^ (prec - 1 + k) units or more is a multiple of 2 ^ k units
abbrev HasPrecision : ℕ → ℕ → Type 0
HasPrecision p Z = (k : ℕ) → 2 ^ (p - 1 + k) ≤ Z → 2 ^ k ∣ Z

has_precision : (p m t Z : ℕ) → 0 < p → m < 2 ^ p → Z ≡ m * 2 ^ t → HasPrecision p Z
has_precision p m t Z P h e k g = subst (λ (z : ℕ). 2 ^ k ∣ z) (sym parts) (dvd-mul_left (2 ^ k) (m * 2 ^ (t - k)))
  where
    room : (p t k : ℕ) → 0 < p → suc t ≤ k → p + t ≤ p - 1 + k
    room p t k P h = omega arith

    enough : k ≤ t
    enough = le_of_suc-le-suc (lt_of_not-le (λ (l : suc t ≤ k). lt_irrefl Z (lt_of_lt_of_le (subst (λ (z : ℕ). z < 2 ^ (p + t)) (sym e) (subst (λ (z : ℕ). m * 2 ^ t < z) (sym (pow-add 2 p t)) (mul-lt-mul_of_pos_right h (pow_pos t)))) (le_trans (pow_mono (room p t k P l)) g))))

    split : (t k : ℕ) → k ≤ t → t ≡ t - k + k
    split t k h = omega arith

    parts : Z ≡ m * 2 ^ (t - k) * 2 ^ k
    parts = e ∙ ap (λ (z : ℕ). m * 2 ^ z) (split t k enough) ∙ ap (λ (z : ℕ). m * z) (pow-add 2 (t - k) k) ∙ sym (mul_assoc m (2 ^ (t - k)) (2 ^ k))

small : (f : Format) (m : ℕ) (e : ℤ) → T (eqb (suc m % 2) 1 && ltb (suc m) (2 ^ prec f) && leb (down e) (2 ^ low f) && ltb (suc m * up e) (2 ^ suc (emax f) * down e)) → (suc m < 2 ^ prec f) × (down e ≤ 2 ^ low f)
small f m e t =
    let a = eqb (suc m % 2) 1 in
    let b = ltb (suc m) (2 ^ prec f) in
    let c = leb (down e) (2 ^ low f) in
    let d = ltb (suc m * up e) (2 ^ suc (emax f) * down e) in
    let t1 : T (a && b && c) = and_l (a && b && c) d t in
    (ltb→lt (suc m) (2 ^ prec f) (and_r a b (and_l (a && b) c t1)), leb→le (down e) (2 ^ low f) (and_r (a && b) c t1))

value_precision : (f : Format) (z : Float) (Z : ℕ) → T (fits f z) → HasValue z false Z (2 ^ low f) → HasPrecision (prec f) Z
unfolding fits
value_precision f nan Z t v = absurd v
value_precision f (inf s) Z t v = absurd v
value_precision f (fin s zero e) Z t v = λ k h. absurd (lt_irrefl 0 (lt_of_lt_of_le (pow_pos (prec f - 1 + k)) (le_trans h (le_of_eq (eq_of_mul-eq-mul_right (down e) (down_pos e) Z 0 (sym v.1 ∙ nought (up e) (2 ^ low f) (down e)))))))
  where
    nought : (a b c : ℕ) → 0 * a * b ≡ 0 * c
    nought a b c = omega arith
value_precision f (fin s (suc m) (pos j)) Z t v = has_precision (prec f) (suc m) (j + low f) Z (two-le_pos (prec f) (two f)) (small f m (pos j) t).0 (sym (mul-one Z) ∙ sym v.1 ∙ mul_assoc (suc m) (2 ^ j) (2 ^ low f) ∙ ap (λ (z : ℕ). suc m * z) (sym (pow-add 2 j (low f))))
value_precision f (fin s (suc m) (negsuc j)) Z t v =
    has_precision (prec f) (suc m) (low f - suc j) Z (two-le_pos (prec f) (two f)) (small f m (negsuc j) t).0
    (eq_of_mul-eq-mul_right (2 ^ suc j) (pow_pos (suc j)) Z (suc m * 2 ^ (low f - suc j))
    (sym v.1
    ∙ ap (λ (z : ℕ). z * 2 ^ low f) (mul-one (suc m))
    ∙ ap (λ (z : ℕ). suc m * 2 ^ z) (split (low f) (suc j) (exponents (suc j) (low f) (small f m (negsuc j) t).1))
    ∙ ap (λ (z : ℕ). suc m * z) (pow-add 2 (low f - suc j) (suc j))
    ∙ sym (mul_assoc (suc m) (2 ^ (low f - suc j)) (2 ^ suc j))))
  where
    split : (l j : ℕ) → j ≤ l → l ≡ l - j + j
    split l j h = omega arith

    exponents : (j l : ℕ) → 2 ^ j ≤ 2 ^ l → j ≤ l
    exponents j l h = le_of_suc-le-suc (lt_of_not-le (λ (g : suc l ≤ j). lt_irrefl (2 ^ l) (lt_of_lt_of_le (pow-lt {i = l} {j = suc l} (le_refl (suc l))) (le_trans (pow_mono g) h))))

-- ---- what is kept of n / den, against Z units
kept_nearest : (p n den Z : ℕ) → 0 < p → 0 < den → HasPrecision p Z → distance (kept p n den * 2 ^ drop p n den * den) n ≤ distance (Z * den) n
kept_nearest p n den Z P D h = go (leb (2 ^ (p - 1 + k)) Z) refl
  where
    k : ℕ
    k = drop p n den

    u : ℕ
    u = den * 2 ^ k

    regroup : (c j d : ℕ) → c * (d * j) ≡ c * j * d
    regroup c j d = omega arith

    to : (w : ℕ) → distance (kept p n den * 2 ^ k * den) n ≤ distance (w * 2 ^ k * den) n
    to w =
        subst (λ (z : ℕ). distance z n ≤ distance (w * 2 ^ k * den) n) (regroup (kept p n den) (2 ^ k) den)
        (subst (λ (z : ℕ). distance (kept p n den * u) n ≤ distance z n) (regroup w (2 ^ k) den) (closest_nearest n u w (mul-pos D (pow_pos k))))

    multiple : 2 ^ k ∣ Z → distance (kept p n den * 2 ^ k * den) n ≤ distance (Z * den) n
    multiple d = subst (λ (z : ℕ). distance (kept p n den * 2 ^ k * den) n ≤ distance (z * den) n) (div-mul_cancel (2 ^ k) d) (to (Z / 2 ^ k))

    all_in_use : (z p : ℕ) → 0 < p → 0 < z - p → p - 1 + (z - p) < z
    all_in_use z p P h = omega arith

    between : (a b n : ℕ) → b ≤ a → a ≤ n → distance a n ≤ distance b n
    between a b n p q = omega arith

    less : Z < 2 ^ (p - 1 + k) → 0 < k → distance (kept p n den * 2 ^ k * den) n ≤ distance (Z * den) n
    less l K =
        let top : 2 ^ (p - 1) * 2 ^ k ≡ 2 ^ (p - 1 + k) = sym (pow-add 2 (p - 1) k) in
        let enough : 2 ^ (p - 1 + k) * den ≤ n = (le-div_iff_mul-le D).0 (size_reaches (n / den) (p - 1 + k) (all_in_use (size (n / den)) p P K)) in
        le_trans (subst (λ (z : ℕ). distance (kept p n den * 2 ^ k * den) n ≤ distance (z * den) n) top (to (2 ^ (p - 1))))
        (between (2 ^ (p - 1 + k) * den) (Z * den) n (mul-le-mul_right den (le_of_lt l)) enough)

    unit : k ≡ 0 → 2 ^ k ∣ Z
    unit e = subst (λ (z : ℕ). z ∣ Z) (sym (ap (λ (z : ℕ). 2 ^ z) e)) (subst (λ (z : ℕ). 1 ∣ z) (mul-one Z) (dvd-mul_left 1 Z))

    go : (b : Bool) → leb (2 ^ (p - 1 + k)) Z ≡ b → distance (kept p n den * 2 ^ k * den) n ≤ distance (Z * den) n
    go true e = multiple (h k (leb-true (2 ^ (p - 1 + k)) Z e))
    go false e = at k refl
      where
        at : (j : ℕ) → k ≡ j → distance (kept p n den * 2 ^ k * den) n ≤ distance (Z * den) n
        at zero z = multiple (unit z)
        at (suc j) z = less (leb-false (2 ^ (p - 1 + k)) Z e) (subst (λ (i : ℕ). 0 < i) (sym z) (zero-lt-suc j))

-- `round f false a c` is `grid f a c` units, where it is finite (`round_val` of lib.Ieee.Scale). No value z of the format, of Z units, is nearer to a / c; both sides are times c.
pub round_nearest : (f : Format) (a c : ℕ) (z : Float) (Z : ℕ) → 0 < c → T (fits f z) → HasValue z false Z (2 ^ low f) → distance (grid f a c * c) (a * 2 ^ low f) ≤ distance (Z * c) (a * 2 ^ low f)
round_nearest f a c z Z C t v = kept_nearest (prec f) (a * 2 ^ low f) c Z (two-le_pos (prec f) (two f)) C (value_precision f z Z t v)
