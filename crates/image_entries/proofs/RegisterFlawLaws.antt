-- A register is bad if its size is 0, or if the sizes up to it pass the limit; a gate entry if its test fails.
use Prim.Native.Nat.{ℕ, suc, ◌+◌, ◌-◌, ◌≤◌, ◌<◌}
use native.Mathlib.Numerals.{add-one}
use native.Mathlib.Omega.{arith}
use mathlib.Core.Path.{◌≡◌, refl, sym, ap, ◌∙◌}
use mathlib.Core.Bool.{Bool, true, false, cond, ◌&&◌}
use mathlib.Core.List.{List, map}
use lib.Dec.{leb}
use borrow.Author.Tests.{le-leb, lt-leb}
use Rattle.model.specs.Lists.{range, sum, every}
use Rattle.model.specs.Check.{first_of, first_bad, register_flaw, gate_ok, gate_flaw}
use Rattle.image.proofs.RegisterStartsLaws.{total_next}

-- the whole range is the one from 0 on
pub bad_all : (number place : ℕ → ℕ) (n : ℕ) → first_bad number place (range 0 n) ≡ first_bad number place (range 0 (n - 0))
bad_all number place n = ap (λ (k : ℕ). first_bad number place (range 0 k)) (whole n)
  where
    whole : (n : ℕ) → n ≡ n - 0
    whole n = omega arith

module _ (size : ℕ → ℕ) (i total : ℕ) (e : total ≡ sum (map size (range 0 i))) where
  up_to : sum (map size (range 0 (suc i))) ≡ total + size i
  up_to = ap (λ (k : ℕ). sum (map size (range 0 k))) (sym (add-one i)) ∙ total_next size i total e

  pub register_zero : size i ≡ 0 → register_flaw size i ≡ 2
  unfolding register_flaw first_of every
  register_zero z = rw (lt-leb 1 (size i) (omega arith)) refl

  pub register_over : 4096 < total + size i → register_flaw size i ≡ 2
  unfolding register_flaw first_of every
  register_over h = rw (up_to, lt-leb (total + size i) 4096 h) (go (leb 1 (size i)) (leb (size i) 4096))
    where
      go : (a b : Bool) → ◌≡◌ {A = ℕ} (cond (a && (b && (false && true))) 0 2) 2
      go true true = refl
      go true false = refl
      go false b = refl

  pub register_fine : ¬ (size i ≡ 0) → total + size i ≤ 4096 → register_flaw size i ≡ 0
  unfolding register_flaw first_of every
  register_fine z h = rw (up_to, le-leb (total + size i) 4096 h, le-leb 1 (size i) (omega arith), le-leb (size i) 4096 (omega arith)) refl

-- ---- gate entries
module _ (image : List ℕ) (g : ℕ) where
  pub gate_bad : gate_ok image g ≡ false → gate_flaw image g ≡ 3
  unfolding gate_flaw first_of
  gate_bad e = rw e refl

  pub gate_fine : gate_ok image g ≡ true → gate_flaw image g ≡ 0
  unfolding gate_flaw first_of
  gate_fine e = rw e refl
