-- A refusal of check has the number 1, or one from 2 to 8 where the contents add up, and is that of the first bad entry: its claims.
use Prim.Native.Nat.{ℕ, ◌≤◌}
use native.Mathlib.Omega.{arith}
use mathlib.Core.Path.{◌≡◌, subst}
use mathlib.Core.Bool.{Bool, true, false, cond}
use mathlib.Core.Logic.{⊎_elim}
use mathlib.Core.List.{List, [], ◌∷◌}
use Rattle.model.specs.Image.{Statement, U, CX, Gate, Barrier, Measure, Reset, Conditional, Unknown, statement}
use Rattle.model.specs.Check.{bad, first_of, contents_ok, register_flaw, gate_flaw, plain_flaw, conditional_ok, conditional_flaw, flaw, check}
use Rattle.model.proofs.All.{head-All, tail-All}
use Rattle.model.specs.All.{All, nil, cons}
use Rattle.model.specs.Claims.{FirstFlaw, CheckClaims}
use Rattle.model.proofs.CheckLaws.{check_first}

-- nothing, or a number from 2 to 8
abbrev pub Known : ℕ → Type 0
Known n = n ≤ 8 × ¬ (n ≡ 1)

pub first_of_lem : (ts : List (Bool × ℕ)) → All (λ t. Known t.1) ts → Known (first_of ts)
unfolding first_of
first_of_lem [] h = (omega arith, λ e. omega arith)
first_of_lem (t ∷ ts) h = go t.0 (first_of_lem ts (tail-All h))
  where
    go : (b : Bool) → Known (first_of ts) → Known (cond b (first_of ts) t.1)
    go true k = k
    go false k = head-All h

known : (n : ℕ) → 2 ≤ n → n ≤ 8 → Known n
known n a b = (b, λ e. omega arith)

module _ (image : List ℕ) where
  plain_known : (f : ℕ → ℕ → ℕ → ℕ) (scope s : ℕ) → ((r v t : ℕ) → Known (f r v t)) → (x : Statement) → Known (plain_flaw image f scope s x)
  unfolding plain_flaw
  plain_known f scope s h (U a b c d) = first_of_lem _ (cons (known 4 (omega arith) (omega arith)) (cons (known 6 (omega arith) (omega arith)) (cons (known 5 (omega arith) (omega arith)) nil)))
  plain_known f scope s h (CX a b) = first_of_lem _ (cons (known 4 (omega arith) (omega arith)) (cons (known 5 (omega arith) (omega arith)) (cons (known 7 (omega arith) (omega arith)) nil)))
  plain_known f scope s h (Gate g p a) =
      first_of_lem _ (cons (known 4 (omega arith) (omega arith)) (cons (known 8 (omega arith) (omega arith)) (cons (known 6 (omega arith) (omega arith)) (cons (known 5 (omega arith) (omega arith)) (cons (known 7 (omega arith) (omega arith)) nil)))))
  plain_known f scope s h (Barrier a n) = first_of_lem _ (cons (known 4 (omega arith) (omega arith)) (cons (known 5 (omega arith) (omega arith)) nil))
  plain_known f scope s h (Measure q c) = first_of_lem _ (cons (known 4 (omega arith) (omega arith)) (cons (known 5 (omega arith) (omega arith)) (cons (known 7 (omega arith) (omega arith)) nil)))
  plain_known f scope s h (Reset q) = first_of_lem _ (cons (known 4 (omega arith) (omega arith)) (cons (known 5 (omega arith) (omega arith)) nil))
  plain_known f scope s h (Conditional r v t) = h r v t
  plain_known f scope s h Unknown = known 4 (omega arith) (omega arith)

  pub flaw_known : (scope s : ℕ) → Known (flaw image scope s)
  unfolding flaw conditional_flaw
  flaw_known scope s = plain_known _ scope s (λ r v t. inner (conditional_ok image scope s r t) t) (statement image s)
    where
      inner : (b : Bool) (t : ℕ) → Known (cond b (plain_flaw image (λ r v t. 4) scope t (statement image t)) 4)
      inner true t = plain_known (λ r v t. 4) scope t (λ r v t. known 4 (omega arith) (omega arith)) (statement image t)
      inner false t = known 4 (omega arith) (omega arith)

  -- whatever the check refuses with where the contents add up
  pub check_known : (n p : ℕ) → contents_ok image ≡ true → check image ≡ bad n p → Known n
  unfolding register_flaw gate_flaw
  check_known n p c e =
      ⊎_elim (λ w. absurd (let z : ◌≡◌ {A = ℕ} 0 1 = cc in omega arith))
      (λ w. ⊎_elim (λ f. subst Known f.its_number (first_of_lem _ (cons (known 2 (omega arith) (omega arith)) nil)))
      (λ v. ⊎_elim (λ f. subst Known f.its_number (first_of_lem _ (cons (known 2 (omega arith) (omega arith)) nil)))
      (λ u. ⊎_elim (λ f. subst Known f.its_number (first_of_lem _ (cons (known 3 (omega arith) (omega arith)) nil)))
      (λ t. subst Known t.1.its_number (flaw_known t.1.entry.0 t.1.entry.1)) u.1) v) w.1)
      (check_first image n p e)

  not_zero : (n p : ℕ) → FirstFlaw image n p → ¬ (n ≡ 0)
  not_zero n p =
      ⊎_elim (λ w z. omega (arith, w.1))
      (λ w. ⊎_elim (λ f. f.is_bad) (λ v. ⊎_elim (λ f. f.is_bad) (λ u. ⊎_elim (λ f. f.is_bad) (λ t. t.1.is_bad) u.1) v) w.1)

  -- all that is claimed of a refusal of check
  pub check_claims : (n p : ℕ) → check image ≡ bad n p → CheckClaims image n p
  check_claims n p e =
      let f = check_first image n p e in
      let z : ¬ (n ≡ 0) = not_zero n p f in
      record {
        number = ⊎_elim (λ w. omega (arith, w.1)) (λ w. let k = check_known n p w.0 e in omega (arith, k.0, z)) f;
        first = f;
      }
