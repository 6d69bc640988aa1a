-- Laws of `gcd`: it divides both numbers, every common divisor divides it, Euclid's lemma, and that a fraction in reduced terms is unique.
use mathlib.Core.Path.{◌≡◌, refl, sym, ap, ◌∙◌, subst}
use Prim.Native.Nat.{ℕ, zero, suc, ◌-◌, ◌*◌, ◌/◌, ◌%◌, ◌^◌, ◌<◌, ◌∣◌}
use native.Mathlib.Nat.{mod-lt, dvd-mod_iff, dvd_refl, dvd-zero, dvd_trans, dvd_antisymm, zero-lt-suc, mul-div-mul_left, mod_def, mul-sub, mul_assoc, mul_comm, mul-zero, dvd-mul_left, mul-div_cancel', pos_of_dvd_of_pos, eq_of_mul-eq-mul_left, eq-one_of_dvd-one, mul-pos, not-suc-le-zero, mul-one, zero-mul, lt-suc_self, mul_left_comm, lt_irrefl, pow-zero, pow-suc}
use native.Mathlib.Omega.{arith}
use Rattle.rational.specs.Gcd.{gcd, euclid}

-- ---- Euclid's steps, with enough fuel
below : {x b k : ℕ} → x < suc b → suc b < suc k → x < k
below p q = omega arith

euclid_divides : (k a b : ℕ) → b < k → (euclid k a b ∣ a) × (euclid k a b ∣ b)
unfolding euclid
euclid_divides zero a b h = absurd (not-suc-le-zero h)
euclid_divides (suc k) a zero h = (dvd_refl a, dvd-zero a)
euclid_divides (suc k) a (suc b) h =
    let ih = euclid_divides k (suc b) (a % suc b) (below (mod-lt a (zero-lt-suc b)) h) in
    ((dvd-mod_iff _ ih.0).0 ih.1, ih.0)

euclid_greatest : (k a b d : ℕ) → d ∣ a → d ∣ b → d ∣ euclid k a b
unfolding euclid
euclid_greatest zero a b d p q = p
euclid_greatest (suc k) a zero d p q = p
euclid_greatest (suc k) a (suc b) d p q = euclid_greatest k (suc b) (a % suc b) d q ((dvd-mod_iff d q).1 p)

pub gcd_dvd_left : (a b : ℕ) → gcd a b ∣ a
unfolding gcd
gcd_dvd_left a b = (euclid_divides (suc b) a b (lt-suc_self b)).0

pub gcd_dvd_right : (a b : ℕ) → gcd a b ∣ b
unfolding gcd
gcd_dvd_right a b = (euclid_divides (suc b) a b (lt-suc_self b)).1

pub gcd_greatest : (a b d : ℕ) → d ∣ a → d ∣ b → d ∣ gcd a b
unfolding gcd
gcd_greatest a b d p q = euclid_greatest (suc b) a b d p q

-- A common divisor that every common divisor divides is the gcd.
pub gcd_unique : (a b g : ℕ) → g ∣ a → g ∣ b → ((d : ℕ) → d ∣ a → d ∣ b → d ∣ g) → g ≡ gcd a b
gcd_unique a b g p q r = dvd_antisymm (gcd_greatest a b g p q) (r (gcd a b) (gcd_dvd_left a b) (gcd_dvd_right a b))

-- The gcd stays as it is in a step of the code's loop.
pub gcd_step : (a b : ℕ) → 0 < b → gcd a b ≡ gcd b (a % b)
gcd_step a b h =
    let g = gcd a b in
    gcd_unique b (a % b) g (gcd_dvd_right a b) ((dvd-mod_iff g (gcd_dvd_right a b)).1 (gcd_dvd_left a b))
    (λ d p q. gcd_greatest a b d ((dvd-mod_iff d p).0 q) p)

pub gcd_zero : (a : ℕ) → gcd a 0 ≡ a
unfolding gcd euclid
gcd_zero a = refl

pub gcd_comm : (a b : ℕ) → gcd a b ≡ gcd b a
gcd_comm a b = gcd_unique b a (gcd a b) (gcd_dvd_right a b) (gcd_dvd_left a b) (λ d p q. gcd_greatest a b d q p)

pub gcd_pos : (a b : ℕ) → 0 < b → 0 < gcd a b
gcd_pos a b h = pos_of_dvd_of_pos (gcd_dvd_right a b) h

-- ---- a common factor comes out
mod_mul_left : (c a b : ℕ) → 0 < c → (c * a) % (c * b) ≡ c * (a % b)
mod_mul_left c a b h =
    mod_def (c * a) (c * b)
    ∙ ap (λ (x : ℕ). c * a - c * b * x) (mul-div-mul_left a b h)
    ∙ ap (λ (x : ℕ). c * a - x) (mul_assoc c b (a / b))
    ∙ sym (mul-sub c a (b * (a / b)))
    ∙ ap (λ (x : ℕ). c * x) (sym (mod_def a b))

times_suc : (c b : ℕ) → 0 < c → 0 < c * suc b
times_suc c b h = mul-pos h (zero-lt-suc b)

gcd_mul_fuel : (k c a b : ℕ) → 0 < c → b < k → gcd (c * a) (c * b) ≡ c * gcd a b
gcd_mul_fuel zero c a b h l = absurd (not-suc-le-zero l)
gcd_mul_fuel (suc k) c a zero h l = ap (gcd (c * a)) (mul-zero c) ∙ gcd_zero (c * a) ∙ ap (λ (x : ℕ). c * x) (sym (gcd_zero a))
gcd_mul_fuel (suc k) c a (suc b) h l =
    gcd_step (c * a) (c * suc b) (times_suc c b h)
    ∙ ap (gcd (c * suc b)) (mod_mul_left c a (suc b) h)
    ∙ gcd_mul_fuel k c (suc b) (a % suc b) h (below (mod-lt a (zero-lt-suc b)) l)
    ∙ ap (λ (x : ℕ). c * x) (sym (gcd_step a (suc b) (zero-lt-suc b)))

pub gcd_mul : (c a b : ℕ) → gcd (c * a) (c * b) ≡ c * gcd a b
gcd_mul zero a b = ap (λ (x : ℕ). gcd x (0 * b)) (zero-mul a) ∙ ap (gcd 0) (zero-mul b) ∙ gcd_zero 0 ∙ sym (zero-mul (gcd a b))
gcd_mul (suc c) a b = gcd_mul_fuel (suc b) (suc c) a b (zero-lt-suc c) (lt-suc_self b)

-- ---- Euclid's lemma
pub coprime_dvd : (a b c : ℕ) → gcd a b ≡ 1 → a ∣ c * b → a ∣ c
coprime_dvd a b c e h =
    subst (λ (x : ℕ). a ∣ x) (gcd_mul c a b ∙ ap (λ (x : ℕ). c * x) e ∙ mul-one c)
    (gcd_greatest (c * a) (c * b) a (dvd-mul_left a c) h)

-- ---- coprime numbers
pub coprime_parts : (a b a' b' : ℕ) → gcd a b ≡ 1 → a' ∣ a → b' ∣ b → gcd a' b' ≡ 1
coprime_parts a b a' b' e p q =
    let g = gcd a' b' in
    eq-one_of_dvd-one (subst (λ (x : ℕ). g ∣ x) e (gcd_greatest a b g (dvd_trans g (gcd_dvd_left a' b') p) (dvd_trans g (gcd_dvd_right a' b') q)))

pub coprime_mul : (a b c : ℕ) → gcd a c ≡ 1 → gcd b c ≡ 1 → gcd (a * b) c ≡ 1
coprime_mul a b c e f =
    let g = gcd (a * b) c in
    let apart : gcd g a ≡ 1 = coprime_parts c a g a (gcd_comm c a ∙ e) (gcd_dvd_right (a * b) c) (dvd_refl a) in
    let in_b : g ∣ b = coprime_dvd g a b apart (subst (λ (x : ℕ). g ∣ x) (mul_comm a b) (gcd_dvd_left (a * b) c)) in
    eq-one_of_dvd-one (subst (λ (x : ℕ). g ∣ x) f (gcd_greatest b c g in_b (gcd_dvd_right (a * b) c)))

pub coprime_mul_right : (a b c : ℕ) → gcd a b ≡ 1 → gcd a c ≡ 1 → gcd a (b * c) ≡ 1
coprime_mul_right a b c e f = gcd_comm a (b * c) ∙ coprime_mul b c a (gcd_comm b a ∙ e) (gcd_comm c a ∙ f)

pub coprime_pow : (a b k : ℕ) → gcd a b ≡ 1 → gcd (a ^ k) (b ^ k) ≡ 1
coprime_pow a b zero e = simp pow-zero (eq-one_of_dvd-one (gcd_dvd_left 1 1))
coprime_pow a b (suc k) e =
    rw (pow-suc a, pow-suc b)
    (coprime_mul_right (a ^ k * a) (b ^ k) b
    (coprime_mul (a ^ k) a (b ^ k) (coprime_pow a b k e) (one_side k))
    (coprime_mul (a ^ k) a b (gcd_comm (a ^ k) b ∙ other_side k) e))
  where
    one_side : (k : ℕ) → gcd a (b ^ k) ≡ 1
    one_side zero = simp pow-zero (eq-one_of_dvd-one (gcd_dvd_right a 1))
    one_side (suc k) = rw (pow-suc b) (coprime_mul_right a (b ^ k) b (one_side k) e)

    other_side : (k : ℕ) → gcd b (a ^ k) ≡ 1
    other_side zero = simp pow-zero (eq-one_of_dvd-one (gcd_dvd_right b 1))
    other_side (suc k) = rw (pow-suc a) (coprime_mul_right b (a ^ k) a (other_side k) (gcd_comm b a ∙ e))

-- ---- dividing both by the gcd
pub gcd_reduced : (a b : ℕ) → 0 < b → gcd (a / gcd a b) (b / gcd a b) ≡ 1
gcd_reduced a b h =
    let g = gcd a b in
    let gp : 0 < g = gcd_pos a b h in
    eq_of_mul-eq-mul_left g gp (gcd (a / g) (b / g)) 1
    (sym (gcd_mul g (a / g) (b / g))
    ∙ ap (λ (x : ℕ). gcd x (g * (b / g))) (mul-div_cancel' g (gcd_dvd_left a b))
    ∙ ap (gcd a) (mul-div_cancel' g (gcd_dvd_right a b))
    ∙ sym (mul-one g))

-- ---- a fraction in reduced terms is unique
den_dvd : (n d n' d' : ℕ) → gcd n d ≡ 1 → n * d' ≡ n' * d → d ∣ d'
den_dvd n d n' d' e q = coprime_dvd d n d' (gcd_comm d n ∙ e) (subst (λ (x : ℕ). d ∣ x) (sym q ∙ mul_comm n d') (dvd-mul_left d n'))

pub lowest_unique : (n d n' d' : ℕ) → 0 < d → gcd n d ≡ 1 → gcd n' d' ≡ 1 → n * d' ≡ n' * d → (n ≡ n') × (d ≡ d')
lowest_unique n d n' d' p e e' q =
    let same : d ≡ d' = dvd_antisymm (den_dvd n d n' d' e q) (den_dvd n' d' n d e' (sym q)) in
    (eq_of_mul-eq-mul_left d p n n' (mul_comm d n ∙ ap (λ (x : ℕ). n * x) same ∙ q ∙ mul_comm n' d), same)

-- ---- what n/d is in reduced terms
pub pos_factor : (g z : ℕ) → 0 < g * z → 0 < z
pos_factor g zero h = absurd (lt_irrefl 0 (subst (λ (z : ℕ). 0 < z) (mul-zero g) h))
pos_factor g (suc z) h = zero-lt-suc z

pub lowest_is : (n d N D : ℕ) → 0 < d → gcd N D ≡ 1 → N * d ≡ n * D → (n / gcd n d ≡ N) × (d / gcd n d ≡ D)
lowest_is n d N D p e q =
    let g = gcd n d in
    let gp : 0 < g = gcd_pos n d p in
    let x : g * (n / g) ≡ n = mul-div_cancel' g (gcd_dvd_left n d) in
    let y : g * (d / g) ≡ d = mul-div_cancel' g (gcd_dvd_right n d) in
    let dp : 0 < d / g = pos_factor g (d / g) (subst (λ (z : ℕ). 0 < z) (sym y) p) in
    lowest_unique (n / g) (d / g) N D dp (gcd_reduced n d p) e
    (eq_of_mul-eq-mul_left g gp (n / g * D) (N * (d / g))
    (sym (mul_assoc g (n / g) D) ∙ ap (λ (z : ℕ). z * D) x ∙ sym q ∙ ap (λ (z : ℕ). N * z) (sym y) ∙ mul_left_comm N g (d / g)))

-- ---- the product of two fractions in reduced terms, by cross reduction
pub cross : (a b c d : ℕ) → 0 < b → 0 < d → gcd a b ≡ 1 → gcd c d ≡ 1
    → (a * c / gcd (a * c) (b * d) ≡ a / gcd a d * (c / gcd c b)) × (b * d / gcd (a * c) (b * d) ≡ b / gcd c b * (d / gcd a d))
cross a b c d B D e f =
    let g = gcd a d in
    let h = gcd c b in
    let a₁ : g * (a / g) ≡ a = mul-div_cancel' g (gcd_dvd_left a d) in
    let d₁ : g * (d / g) ≡ d = mul-div_cancel' g (gcd_dvd_right a d) in
    let c₁ : h * (c / h) ≡ c = mul-div_cancel' h (gcd_dvd_left c b) in
    let b₁ : h * (b / h) ≡ b = mul-div_cancel' h (gcd_dvd_right c b) in
    let part : (g x y : ℕ) → g * y ≡ x → y ∣ x = λ g x y q. subst (λ (z : ℕ). y ∣ z) q (dvd-mul_left y g) in
    lowest_is (a * c) (b * d) (a / g * (c / h)) (b / h * (d / g)) (mul-pos B D)
    (coprime_mul_right (a / g * (c / h)) (b / h) (d / g)
    (coprime_mul (a / g) (c / h) (b / h) (coprime_parts a b (a / g) (b / h) e (part g a (a / g) a₁) (part h b (b / h) b₁)) (gcd_reduced c b B))
    (coprime_mul (a / g) (c / h) (d / g) (gcd_reduced a d D) (coprime_parts c d (c / h) (d / g) f (part h c (c / h) c₁) (part g d (d / g) d₁))))
    (regroup (a / g) (c / h) (b / h) (d / g) g h a b c d a₁ b₁ c₁ d₁)
  where
    regroup : (A C B D g h a b c d : ℕ) → g * A ≡ a → h * B ≡ b → h * C ≡ c → g * D ≡ d → A * C * (b * d) ≡ a * c * (B * D)
    regroup A C B D g h a b c d p q r s = rw (← p, ← q, ← r, ← s) (omega arith)
