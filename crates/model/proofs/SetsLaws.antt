-- Words stored after other words, and the test for room.
use Prim.Native.Nat.{ℕ, suc, ◌+◌, ◌≤◌}
use native.Mathlib.Nat.{zero-add}
use native.Mathlib.Numerals.{add-one}
use native.Mathlib.Omega.{arith}
use mathlib.Core.Path.{◌≡◌, refl, ◌∙◌}
use mathlib.Core.List.{List, [], ◌∷◌, ◌++◌, flat_map}
use lib.ListN.{length, set, take, drop}
use lib.Seq.{sets, sets-eq, take-append_seam}
use Rattle.model.specs.Lists.{range}
use Rattle.model.proofs.ListLaws.{range_snoc, flat_snoc}
use Rattle.model.proofs.PlayLaws.{sets_append}

-- words after words
pub put_more : {out' out'' : List ℕ} (out : List ℕ) (start i : ℕ) (ws vs : List ℕ) → i ≡ start + length ws → out' ≡ sets out start ws → out'' ≡ sets out' i vs → out'' ≡ sets out start (ws ++ vs)
put_more out start i ws vs e h k = k ∙ rw (h, e) (sets_append out start ws vs)

-- words at the front are what the front holds
pub front : (ws out : List ℕ) → length ws ≤ length out → take (length ws) (sets out 0 ws) ≡ ws
front ws out h = rw (sets-eq ws out 0 (omega arith)) (take-append_seam ws (drop (0 + length ws) out))

pub three_put : (out : List ℕ) (p a b c : ℕ) → set (set (set out p a) (p + 1) b) (p + 2) c ≡ sets out p (a ∷ b ∷ c ∷ [])
three_put out p a b c = let q : p + 2 ≡ suc (suc p) = omega arith in rw (q, add-one p) refl

-- ---- lists joined

-- the numbers below n, and n
pub range_more : (n : ℕ) → range 0 (n + 1) ≡ range 0 n ++ n ∷ []
range_more n = rw (range_snoc 0 n, zero-add n) refl

pub flat_more : {B : Type 0} (g : ℕ → List B) (n : ℕ) → flat_map g (range 0 (n + 1)) ≡ flat_map g (range 0 n) ++ g n
flat_more g n = rw (flat_snoc g 0 n, zero-add n) refl
