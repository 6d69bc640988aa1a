-- Small laws that several crates cite: the entries of a list and of its front, ranges with one number more, a number that is none of some.
use Prim.Native.Nat.{ℕ, zero, suc, ◌+◌, ◌-◌, ◌≤◌, ◌<◌}
use native.Mathlib.Nat.{add-zero, le_of_suc-le-suc, not-suc-le-zero}
use native.Mathlib.Numerals.{add-one}
use native.Mathlib.Omega.{arith}
use mathlib.Core.Path.{◌≡◌, refl, sym, ap, ◌∙◌}
use mathlib.Core.List.{List, [], ◌∷◌, ◌++◌, map, flat_map, append_assoc, append-nil}
use lib.ListN.{length, get_or, take, drop}
use lib.Seq.{take-nil}
use Rattle.model.specs.Lists.{range}

-- within a list no default shows
pub within : {A : Type 0} (l : List A) (i : ℕ) (d e : A) → i < length l → get_or l i d ≡ get_or l i e
within [] i d e h = absurd (omega arith)
within (x ∷ l) zero d e h = refl
within (x ∷ l) (suc i) d e h = within l i d e (omega arith)

-- the front of a list has its entries
pub get_d_take : {A : Type 0} (n i : ℕ) (l : List A) (d : A) → i < n → get_or (take n l) i d ≡ get_or l i d
get_d_take zero i l d h = absurd (not-suc-le-zero h)
get_d_take (suc n) i [] d h = refl
get_d_take (suc n) zero (x ∷ l) d h = refl
get_d_take (suc n) (suc i) (x ∷ l) d h = get_d_take n i l d (omega arith)

-- what is left of a front behind some entries is a front of what is left
pub drop_take : (k m : ℕ) (l : List ℕ) → k ≤ m → drop k (take m l) ≡ take (m - k) (drop k l)
drop_take zero m l h = let e : m ≡ m - 0 = omega arith in ap (λ (j : ℕ). take j l) e
drop_take (suc k) zero l h = absurd (not-suc-le-zero h)
drop_take (suc k) (suc m) [] h = sym (take-nil (suc m - suc k))
drop_take (suc k) (suc m) (x ∷ l) h =
    let e : m - k ≡ suc m - suc k = omega arith in
    drop_take k m l (le_of_suc-le-suc h) ∙ ap (λ (j : ℕ). take j (drop k l)) e

-- ---- ranges

pub entry_of_map : {A : Type 0} (f : ℕ → A) (a n i : ℕ) (d : A) → i < n → get_or (map f (range a n)) i d ≡ f (a + i)
unfolding range
entry_of_map f a zero i d h = absurd (omega arith)
entry_of_map f a (suc n) zero d h = ap f (sym (add-zero a))
entry_of_map f a (suc n) (suc i) d h =
    let e : suc a + i ≡ a + suc i = omega arith in
    entry_of_map f (suc a) n i d (omega arith) ∙ ap f e

range_suc : (a n : ℕ) → range a (suc n) ≡ range a n ++ (a + n) ∷ []
unfolding range
range_suc a zero = rw (add-zero a) refl
range_suc a (suc n) =
    let e : suc a + n ≡ a + suc n = omega arith in
    rw (sym e, range_suc (suc a) n) refl

-- a number more
pub range_snoc : (a n : ℕ) → range a (n + 1) ≡ range a n ++ (a + n) ∷ []
range_snoc a n = ap (range a) (add-one n) ∙ range_suc a n

pub flat_append : {A B : Type 0} (g : A → List B) (l m : List A) → flat_map g (l ++ m) ≡ flat_map g l ++ flat_map g m
unfolding flat_map
flat_append g [] m = refl
flat_append g (x ∷ l) m = rw (flat_append g l m, append_assoc (g x) (flat_map g l) (flat_map g m)) refl

pub flat_snoc : {B : Type 0} (g : ℕ → List B) (a n : ℕ) → flat_map g (range a (n + 1)) ≡ flat_map g (range a n) ++ g (a + n)
unfolding flat_map
flat_snoc g a n = rw (range_snoc a n, flat_append g (range a n) ((a + n) ∷ []), append-nil (g (a + n))) refl
