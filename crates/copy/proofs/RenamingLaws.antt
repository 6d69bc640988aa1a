-- A renaming by the place where a qubit stands first.
use Prim.Native.Nat.{ℕ, suc, ◌+◌, ◌-◌, ◌≤◌}
use native.Mathlib.Omega.{arith}
use mathlib.Core.Path.{◌≡◌, refl, sym, ap, ◌∙◌}
use mathlib.Core.Bool.{Bool, true, false, cond}
use mathlib.Core.List.{List, [], ◌∷◌}
use lib.Dec.{eqb}
use lib.ListN.{length, get_or}
use Rattle.std.specs.Prelude.{Some, None}
use Rattle.std.specs.List.{position, position_from}
use Rattle.std.proofs.lemmas.Iterator.Adapters.{position_from-zero}
use Rattle.copy.specs.Renaming.{renaming}

-- the new qubit at the place, counted from k on
found_from : (qs qs' : List ℕ) (x k i : ℕ) → length qs ≡ length qs' → position_from (λ (y : ℕ). eqb x y) k qs ≡ Some i → (k ≤ i) × (get_or qs' (i - k) 0 ≡ renaming qs qs' x)
unfolding renaming
found_from [] qs' x k i e d = absurd (let z : ◌≡◌ {A = ℕ} 0 1 = cc in omega arith)
found_from (q ∷ qs) [] x k i e d = absurd (omega arith)
found_from (q ∷ qs) (q' ∷ qs') x k i e d = go (eqb x q) (λ f. found_from qs qs' x (k + 1) i (omega arith) f) d
  where
    go : (b : Bool) → (position_from (λ (y : ℕ). eqb x y) (k + 1) qs ≡ Some i → (k + 1 ≤ i) × (get_or qs' (i - (k + 1)) 0 ≡ renaming qs qs' x))
        → cond b (Some k) (position_from (λ (y : ℕ). eqb x y) (k + 1) qs) ≡ Some i → (k ≤ i) × (get_or (q' ∷ qs') (i - k) 0 ≡ cond b q' (renaming qs qs' x))
    go true more f = let z : k ≡ i = cc in let n : i - k ≡ 0 = omega arith in (omega arith, rw n refl)
    go false more f =
        let later = more f in
        let n : i - k ≡ suc (i - (k + 1)) = omega (arith, later.0) in
        (omega (arith, later.0), rw n later.1)

pub found_at : (qs qs' : List ℕ) (x i : ℕ) → length qs ≡ length qs' → position (λ (y : ℕ). eqb x y) qs ≡ Some i → get_or qs' i 0 ≡ renaming qs qs' x
found_at qs qs' x i e d =
    let n : i ≡ i - 0 = omega arith in
    ap (λ (j : ℕ). get_or qs' j 0) n ∙ (found_from qs qs' x 0 i e (sym (position_from-zero (λ (y : ℕ). eqb x y) qs) ∙ d)).1

-- a qubit that stands nowhere
missing_from : (qs qs' : List ℕ) (x k : ℕ) → position_from (λ (y : ℕ). eqb x y) k qs ≡ None → x ≡ renaming qs qs' x
unfolding renaming
missing_from [] qs' x k d = refl
missing_from (q ∷ qs) [] x k d = refl
missing_from (q ∷ qs) (q' ∷ qs') x k d = go (eqb x q) (λ f. missing_from qs qs' x (k + 1) f) d
  where
    go : (b : Bool) → (position_from (λ (y : ℕ). eqb x y) (k + 1) qs ≡ None → x ≡ renaming qs qs' x)
        → cond b (Some k) (position_from (λ (y : ℕ). eqb x y) (k + 1) qs) ≡ None → x ≡ cond b q' (renaming qs qs' x)
    go true more f = absurd (let z : ◌≡◌ {A = ℕ} 0 1 = cc in omega arith)
    go false more f = more f

pub found_nowhere : (qs qs' : List ℕ) (x : ℕ) → position (λ (y : ℕ). eqb x y) qs ≡ None → x ≡ renaming qs qs' x
found_nowhere qs qs' x d = missing_from qs qs' x 0 (sym (position_from-zero (λ (y : ℕ). eqb x y) qs) ∙ d)
