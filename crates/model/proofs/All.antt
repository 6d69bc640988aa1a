-- Laws of `All`: facts about every element of a list, made and taken apart.
use Prim.Native.Nat.{ℕ, zero, suc, ◌+◌, ◌≤◌, ◌<◌}
use native.Mathlib.Nat.{not-suc-le-zero, eq-or-lt_of_le}
use native.Mathlib.Omega.{arith}
use mathlib.Core.Path.{◌≡◌, refl, sym, subst}
use mathlib.Core.Logic.{◌⊎◌, inl, inr}
use mathlib.Core.Bool.{Bool, true, false, ◌&&◌}
use mathlib.Core.List.Memᴰ
use mathlib.Core.List.{List, [], ◌∷◌, ◌++◌, map, flat_map, Memᴰ}
use lib.Dec.{T}
use lib.ListN.{length, get_or}
use Rattle.model.specs.Lists.{range, every, all}
use Rattle.model.specs.All.{All, nil, cons}

-- tests
pub and_t : (a b : Bool) → T (a && b) → T a × T b
and_t true b t = (tt, t)
and_t false b t = absurd t

pub T_and : (a b : Bool) → T a → T b → T (a && b)
T_and true b s t = t
T_and false b s t = absurd s

pub All-every : {l : List Bool} → All T l → T (every l)
unfolding every
All-every nil = tt
All-every (cons {x} {xs} h k) = T_and x (every xs) h (All-every k)

-- the i-th of some tests, counted from 0
pub test : (i : ℕ) (l : List Bool) → T (every l) → T (get_or l i true)
unfolding every
test i [] t = tt
test zero (b ∷ l) t = (and_t b (every l) t).0
test (suc i) (b ∷ l) t = test i l (and_t b (every l) t).1

module _ {A : Type 0} where
  pub head-All : {P : A → Type 0} {x : A} {l : List A} → All P (x ∷ l) → P x
  head-All (cons h k) = h

  pub tail-All : {P : A → Type 0} {x : A} {l : List A} → All P (x ∷ l) → All P l
  tail-All (cons h k) = k

  pub all-All : (p : A → Bool) (l : List A) → T (all p l) → All (λ x. T (p x)) l
  unfolding all
  all-All p [] t = nil
  all-All p (x ∷ xs) t = let s = and_t (p x) (all p xs) t in cons s.0 (all-All p xs s.1)

  pub All-all : (p : A → Bool) {l : List A} → All (λ x. T (p x)) l → T (all p l)
  unfolding all
  All-all p nil = tt
  All-all p (cons {x} {xs} h k) = T_and (p x) (all p xs) h (All-all p k)

  pub All-weaken : {P Q : A → Type 0} → ((x : A) → P x → Q x) → {l : List A} → All P l → All Q l
  All-weaken f nil = nil
  All-weaken f (cons {x} h k) = cons (f x h) (All-weaken f k)

  pub All-append : {P : A → Type 0} {s t : List A} → All P s → All P t → All P (s ++ t)
  All-append nil k = k
  All-append (cons h j) k = cons h (All-append j k)

  pub All-front : {P : A → Type 0} (s t : List A) → All P (s ++ t) → All P s
  All-front [] t h = nil
  All-front (x ∷ s) t h = cons (head-All h) (All-front s t (tail-All h))

  pub All-back : {P : A → Type 0} (s t : List A) → All P (s ++ t) → All P t
  All-back [] t h = h
  All-back (x ∷ s) t h = All-back s t (tail-All h)

  pub All-getD : {P : A → Type 0} {l : List A} (i : ℕ) (d : A) → i < length l → All P l → P (get_or l i d)
  All-getD i d h nil = absurd (not-suc-le-zero h)
  All-getD zero d h (cons p k) = p
  All-getD (suc i) d h (cons p k) = All-getD i d (omega arith) k

  -- by membership
  pub All-members : {P : A → Type 0} (l : List A) → ((x : A) → Memᴰ x l → P x) → All P l
  All-members [] h = nil
  All-members (x ∷ l) h = cons (h x (Memᴰ.head refl)) (All-members l (λ y m. h y (Memᴰ.tail m)))

  pub members-All : {P : A → Type 0} {l : List A} → All P l → (x : A) → Memᴰ x l → P x
  members-All nil x m = absurd (Memᴰ.not-nil m)
  members-All {P} (cons {x = y} {xs} h k) x m = go (Memᴰ.cases_cons m) (λ n. members-All k x n)
    where
      go : (x ≡ y) ⊎ Memᴰ x xs → (Memᴰ x xs → P x) → P x
      go (inl e) later = subst P (sym e) h
      go (inr n) later = later n

module _ {A B : Type 0} where
  pub All-flat : {P : B → Type 0} (g : A → List B) {l : List A} → All (λ x. All P (g x)) l → All P (flat_map g l)
  unfolding flat_map
  All-flat g nil = nil
  All-flat g (cons h k) = All-append h (All-flat g k)

  pub flat-All : {P : B → Type 0} (g : A → List B) (l : List A) → All P (flat_map g l) → All (λ x. All P (g x)) l
  unfolding flat_map
  flat-All g [] h = nil
  flat-All g (x ∷ l) h = cons (All-front (g x) (flat_map g l) h) (flat-All g l (All-back (g x) (flat_map g l) h))

  pub All-of : {P : B → Type 0} (g : A → B) {l : List A} → All (λ x. P (g x)) l → All P (map g l)
  All-of g nil = nil
  All-of g (cons h k) = cons h (All-of g k)

  pub of-All : {P : B → Type 0} (g : A → B) (l : List A) → All P (map g l) → All (λ x. P (g x)) l
  of-All g [] h = nil
  of-All g (x ∷ l) h = cons (head-All h) (of-All g l (tail-All h))

-- the numbers from a on
pub All-range : {P : ℕ → Type 0} (a n : ℕ) → ((i : ℕ) → a ≤ i → i < a + n → P i) → All P (range a n)
unfolding range
All-range a zero h = nil
All-range a (suc n) h = cons (h a (omega arith) (omega arith)) (All-range (suc a) n (λ i p q. h i (omega arith) (omega arith)))

pub range-All : {P : ℕ → Type 0} (a n i : ℕ) → All P (range a n) → a ≤ i → i < a + n → P i
unfolding range
range-All a zero i h p q = absurd (let z : i < a = omega arith in omega arith)
range-All {P} a (suc n) i h p q = go (eq-or-lt_of_le p) (λ r. range-All (suc a) n i (tail-All h) r (omega arith))
  where
    go : (a ≡ i) ⊎ (a < i) → (suc a ≤ i → P i) → P i
    go (inl e) later = subst P e (head-All h)
    go (inr l) later = later l
