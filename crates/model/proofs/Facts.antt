-- Laws of `Facts`: each statement of an accepted image has them. One law, for every later operation.
use Prim.Native.Nat.{ℕ, zero, suc, ◌+◌, ◌≤◌, ◌<◌}
use native.Mathlib.Omega.{arith}
use mathlib.Core.Path.{◌≡◌, refl, sym, subst}
use mathlib.Core.Bool.{Bool, true, false, cond}
use mathlib.Core.List.{List, Memᴰ}
use lib.Dec.{T, leb→le, ltb→lt, eqb→eq}
use Rattle.model.specs.Lists.{range}
use Rattle.model.specs.Image.{statement_of, Statement, U, CX, Gate, Barrier, Measure, Reset, Conditional, Unknown, statement, gates, scope_statements}
use Rattle.model.specs.Check.{plain_flaw, conditional_ok, conditional_flaw, flaw}
use Rattle.model.specs.All.{All}
use Rattle.model.specs.Accepted.{Accepted, PlainFacts, Facts}
use Rattle.model.proofs.All.{test, members-All, All-members, range-All}
use Rattle.model.proofs.Accepted.{passes}

module _ (image : List ℕ) where
  four : ◌≡◌ {A = ℕ} 4 0 → ⊥
  four e = omega arith

  -- a statement with no flaw; an if's must not be 0
  pub plain_facts : (f : ℕ → ℕ → ℕ → ℕ) (scope s : ℕ) → ((r v t : ℕ) → ¬ (f r v t ≡ 0)) → (x : Statement) → plain_flaw image f scope s x ≡ 0 → PlainFacts image scope x
  unfolding plain_flaw
  plain_facts f scope s h (U a b c d) e =
      let t = passes 0 _ e tt in
      (ltb→lt _ _ (test 0 _ t), ltb→lt _ _ (test 1 _ t), ltb→lt _ _ (test 2 _ t), ltb→lt _ _ (test 3 _ t), passes 1 _ e tt, passes 2 _ e tt)
  plain_facts f scope s h (CX a b) e =
      let t = passes 0 _ e tt in
      let u = passes 1 _ e tt in
      (ltb→lt _ _ (test 1 _ t), ltb→lt _ _ (test 2 _ t), test 0 _ u, test 1 _ u, passes 2 _ e tt)
  plain_facts f scope s h (Gate g p a) e =
      let t = passes 0 _ e tt in
      (ltb→lt _ _ (test 1 _ t), leb→le _ _ (test 2 _ t), leb→le _ _ (test 3 _ t), passes 1 _ e tt, passes 2 _ e tt, passes 3 _ e tt, passes 4 _ e tt)
  plain_facts f scope s h (Barrier a n) e = (leb→le _ _ (test 1 _ (passes 0 _ e tt)), passes 1 _ e tt)
  plain_facts f scope s h (Measure q c) e =
      let t = passes 0 _ e tt in
      let u = passes 1 _ e tt in
      (eqb→eq _ _ (test 0 _ t), ltb→lt _ _ (test 2 _ t), ltb→lt _ _ (test 3 _ t), test 0 _ u, test 1 _ u, passes 2 _ e tt)
  plain_facts f scope s h (Reset q) e = let t = passes 0 _ e tt in (eqb→eq _ _ (test 0 _ t), ltb→lt _ _ (test 2 _ t), passes 1 _ e tt)
  plain_facts f scope s h (Conditional r v t) e = h r v t e
  plain_facts f scope s h Unknown e = four e

  conditional_facts : (scope s r v t : ℕ) → conditional_flaw image scope s r v t ≡ 0 → Facts image scope (Conditional r v t)
  unfolding conditional_flaw conditional_ok
  conditional_facts scope s r v t e = go (conditional_ok image scope s r t) refl e
    where
      go : (b : Bool) → conditional_ok image scope s r t ≡ b → cond b (plain_flaw image (λ r v t. 4) scope t (statement image t)) 4 ≡ 0 → Facts image scope (Conditional r v t)
      go true c e =
          let k = subst T (sym c) tt in
          (eqb→eq _ _ (test 0 _ k), ltb→lt _ _ (test 2 _ k), leb→le _ _ (test 3 _ k), ltb→lt _ _ (test 4 _ k), test 5 _ k, plain_facts (λ r v t. 4) scope t (λ r v t d. four d) (statement image t) e)
      go false c e = absurd (four e)

  flaw_facts : (scope s : ℕ) (x : Statement) → plain_flaw image (conditional_flaw image scope s) scope s x ≡ 0 → Facts image scope x
  unfolding plain_flaw
  flaw_facts scope s (Conditional r v t) e = conditional_facts scope s r v t e
  flaw_facts scope s (U a b c d) e = plain_facts (λ r v t. 4) scope s (λ r v t d. four d) (U a b c d) e
  flaw_facts scope s (CX a b) e = plain_facts (λ r v t. 4) scope s (λ r v t d. four d) (CX a b) e
  flaw_facts scope s (Gate g p a) e = plain_facts (λ r v t. 4) scope s (λ r v t d. four d) (Gate g p a) e
  flaw_facts scope s (Barrier a n) e = plain_facts (λ r v t. 4) scope s (λ r v t d. four d) (Barrier a n) e
  flaw_facts scope s (Measure q c) e = plain_facts (λ r v t. 4) scope s (λ r v t d. four d) (Measure q c) e
  flaw_facts scope s (Reset q) e = plain_facts (λ r v t. 4) scope s (λ r v t d. four d) (Reset q) e
  flaw_facts scope s Unknown e = four e

  -- the law: each statement of each scope of an accepted image
  pub facts : Accepted image → (scope s : ℕ) → scope ≤ gates image → Memᴰ s (scope_statements image scope) → Facts image scope (statement image s)
  unfolding flaw
  facts acc scope s h m = flaw_facts scope s (statement image s) (members-All (acc.flawless scope h) s m)

  -- of a scope's statements that stand in a row
  pub run_facts : Accepted image → (scope first count i : ℕ) → scope ≤ gates image → scope_statements image scope ≡ range first count → i < count → Facts image scope (statement image (first + i))
  run_facts acc scope first count i within run h =
      let each = All-members {P = λ s. Facts image scope (statement image s)} (scope_statements image scope) (λ s m. facts acc scope s within m) in
      range-All {P = λ s. Facts image scope (statement image s)} first count (first + i) (subst (All (λ s. Facts image scope (statement image s))) run each) (omega arith) (omega arith)

  -- a statement that is no if has the facts of a plain one
  pub no_if_lem : (scope kind a b c d : ℕ) → ¬ (kind ≡ 7) → Facts image scope (statement_of kind a b c d) → PlainFacts image scope (statement_of kind a b c d)
  unfolding statement_of
  no_if_lem scope zero a b c d h f = f
  no_if_lem scope (suc zero) a b c d h f = f
  no_if_lem scope (suc (suc zero)) a b c d h f = f
  no_if_lem scope (suc (suc (suc zero))) a b c d h f = f
  no_if_lem scope (suc (suc (suc (suc zero)))) a b c d h f = f
  no_if_lem scope (suc (suc (suc (suc (suc zero))))) a b c d h f = f
  no_if_lem scope (suc (suc (suc (suc (suc (suc zero)))))) a b c d h f = f
  no_if_lem scope (suc (suc (suc (suc (suc (suc (suc zero))))))) a b c d h f = absurd (h refl)
  no_if_lem scope (suc (suc (suc (suc (suc (suc (suc (suc k)))))))) a b c d h f = f
