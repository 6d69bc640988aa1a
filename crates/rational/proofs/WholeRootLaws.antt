-- `whole_root k n` is the r with r ^ k = n, and there is none where it is absent; a root of a fraction in lowest terms is in lowest terms.
use mathlib.Core.Path.{◌≡◌, refl, sym, ◌∙◌, subst}
use mathlib.Core.Bool.{Bool, true, false, cond}
use Prim.Native.Nat.{ℕ, zero, suc, ◌+◌, ◌*◌, ◌^◌, ◌<◌, ◌∣◌}
use native.Mathlib.Nat.{pow-suc, mul-zero, dvd-mul_left, le_of_dvd, lt_of_le_of_lt, le_of_eq, lt_irrefl, zero-lt-suc, one-le-pow, pow-lt-pow_left}
use native.Mathlib.Omega.{arith}
use lib.Dec.{eqb}
use borrow.Author.Tests.{eqb-true, eq-eqb}
use Rattle.rational.specs.Root.{root}
use Rattle.rational.specs.Rational.{LowestTerms, ratio, whole_root, root_ratio, rational_root}
use Rattle.rational.specs.Promise.{SoundOption}
use Rattle.rational.specs.declared.Rational64.{Rational64}
use Rattle.std.specs.Prelude.{Option, Some, None}
use Rattle.rational.proofs.GcdLaws.{coprime_parts, coprime_pow, lowest_unique}
use Rattle.rational.proofs.RootLaws.{root_is, root_unique}

pub whole_root_is : (k n r : ℕ) → whole_root k n ≡ Some r → r ^ k ≡ n
unfolding whole_root
whole_root_is k n r = go (eqb (root k n ^ k) n) refl
  where
    go : (b : Bool) → eqb (root k n ^ k) n ≡ b → cond b (Some (root k n)) None ≡ Some r → r ^ k ≡ n
    go true t e = let q : root k n ≡ r = cc in subst (λ (z : ℕ). z ^ k ≡ n) q (eqb-true (root k n ^ k) n t)
    go false t e = absurd (let z : ◌≡◌ {A = ℕ} 0 1 = cc in omega arith)

power_grows : (k r : ℕ) → 0 < k → r ^ k < (r + 1) ^ k
power_grows k r h = pow-lt-pow_left (more r) (λ e. lt_irrefl 0 (subst (λ (z : ℕ). 0 < z) e h))
  where
    more : (r : ℕ) → r < r + 1
    more r = omega arith

pub whole_root_found : (k n r : ℕ) → 0 < k → r ^ k ≡ n → whole_root k n ≡ Some r
unfolding whole_root
whole_root_found k n r h e =
    let same : root k n ≡ r = root_unique k n (root k n) r (root_is k n h) (le_of_eq e, subst (λ (z : ℕ). z < (r + 1) ^ k) e (power_grows k r h)) in
    rw same (rw (eq-eqb (r ^ k) n e))

-- ---- the root of a fraction
divides_power : (a k : ℕ) → 0 < k → a ∣ a ^ k
divides_power a zero h = absurd (lt_irrefl 0 h)
divides_power a (suc k) h = subst (λ (z : ℕ). a ∣ z) (sym (pow-suc a k)) (dvd-mul_left a (a ^ k))

root_positive : (b k d : ℕ) → 0 < k → b ^ k ≡ d → 0 < d → 0 < b
root_positive zero zero d h e p = absurd (lt_irrefl 0 h)
root_positive zero (suc k) d h e p = absurd (lt_irrefl 0 (subst (λ (z : ℕ). 0 < z) (sym e ∙ pow-suc 0 k ∙ mul-zero (0 ^ k)) p))
root_positive (suc b) k d h e p = zero-lt-suc b

root_smaller : (a k n : ℕ) → 0 < k → a ^ k ≡ n → n < 2 ^ 63 → a < 2 ^ 63
root_smaller zero k n h e l = zero-lt-suc _
root_smaller (suc a) k n h e l = lt_of_le_of_lt (le_of_dvd (one-le-pow k (suc a) (zero-lt-suc a)) (divides_power (suc a) k h)) (subst (λ (z : ℕ). z < 2 ^ 63) (sym e) l)

pub roots_lowest : (x : Rational64) (k a b : ℕ) → LowestTerms x → 0 < k → a ^ k ≡ x.numer → b ^ k ≡ x.denom → LowestTerms (ratio false a b)
roots_lowest x k a b l h p q = record {
  positive = root_positive b k x.denom h q l.positive;
  numer_fits = root_smaller a k x.numer h p l.numer_fits;
  denom_fits = root_smaller b k x.denom h q l.denom_fits;
  coprime = coprime_parts x.numer x.denom a b l.coprime (subst (λ (z : ℕ). a ∣ z) p (divides_power a k h)) (subst (λ (z : ℕ). b ∣ z) q (divides_power b k h));
  zero_unsigned = λ e. refl;
}

pub root_sound : (x : Rational64) (k : ℕ) → LowestTerms x → 0 < k → SoundOption (rational_root k x)
unfolding rational_root
root_sound x k l h = signed x.negative
  where
    ratios : (n d : Option ℕ) → whole_root k x.numer ≡ n → whole_root k x.denom ≡ d → SoundOption (root_ratio n d)
    ratios (Some a) (Some b) p q = roots_lowest x k a b l h (whole_root_is k x.numer a p) (whole_root_is k x.denom b q)
    ratios (Some a) None p q = tt
    ratios None d p q = tt

    signed : (s : Bool) → SoundOption (cond s None (root_ratio (whole_root k x.numer) (whole_root k x.denom)))
    signed true = tt
    signed false = ratios (whole_root k x.numer) (whole_root k x.denom) refl refl

-- ---- a root that is found is the root, and one that is there is found: r is not negative, and r ^ k = x
pub rational_root_is : (x r : Rational64) (k : ℕ) → rational_root k x ≡ Some r → (x.negative ≡ false) × (r.negative ≡ false) × (r.numer ^ k ≡ x.numer) × (r.denom ^ k ≡ x.denom)
unfolding rational_root
rational_root_is x r k = signed x.negative refl
  where
    no : None ≡ Some r → ⊥
    no e = let z : ◌≡◌ {A = ℕ} 0 1 = cc in omega arith

    ratios : (n d : Option ℕ) → whole_root k x.numer ≡ n → whole_root k x.denom ≡ d → root_ratio n d ≡ Some r → (r.negative ≡ false) × (r.numer ^ k ≡ x.numer) × (r.denom ^ k ≡ x.denom)
    ratios (Some a) (Some b) p q e =
        let i : ratio false a b ≡ r = cc in
        subst (λ (z : Rational64). (z.negative ≡ false) × (z.numer ^ k ≡ x.numer) × (z.denom ^ k ≡ x.denom)) i (refl, whole_root_is k x.numer a p, whole_root_is k x.denom b q)
    ratios (Some a) None p q e = absurd (no e)
    ratios None d p q e = absurd (no e)

    signed : (s : Bool) → x.negative ≡ s → cond s None (root_ratio (whole_root k x.numer) (whole_root k x.denom)) ≡ Some r
        → (x.negative ≡ false) × (r.negative ≡ false) × (r.numer ^ k ≡ x.numer) × (r.denom ^ k ≡ x.denom)
    signed true h e = absurd (no e)
    signed false h e = let t = ratios (whole_root k x.numer) (whole_root k x.denom) refl refl e in (h, t.0, t.1, t.2)

pub rational_root_found : (x r : Rational64) (k : ℕ) → 0 < k → LowestTerms x → LowestTerms r → x.negative ≡ false → r.negative ≡ false
    → r.numer ^ k * x.denom ≡ x.numer * r.denom ^ k → rational_root k x ≡ Some r
unfolding rational_root
rational_root_found x r k h p q nx nr e =
    rw (nx, whole_root_found k x.numer r.numer h same.0, whole_root_found k x.denom r.denom h same.1) (made r.negative nr)
  where
    same : (r.numer ^ k ≡ x.numer) × (r.denom ^ k ≡ x.denom)
    same = lowest_unique (r.numer ^ k) (r.denom ^ k) x.numer x.denom (one-le-pow k r.denom q.positive) (coprime_pow r.numer r.denom k q.coprime) p.coprime e

    made : (s : Bool) → s ≡ false → ◌≡◌ {A = _} (Some (ratio false r.numer r.denom)) (Some (record { negative = s; numer = r.numer; denom = r.denom }))
    made s z = rw z
