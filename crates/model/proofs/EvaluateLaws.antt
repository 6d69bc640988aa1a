-- The value of an accepted expression from its operands' values, the number of levels not showing.
use Prim.Native.Nat.{ℕ, zero, suc}
use mathlib.Core.Path.{◌≡◌, refl, sym, ap, ap₂}
use mathlib.Core.Bool.{Bool}
use mathlib.Core.List.{List, [], ◌∷◌}
use lib.Dec.{T, ltb}
use Rattle.value.specs.declared.Value.{Value}
use Rattle.value.specs.Value.{and_then}
use Rattle.model.specs.Lists.{every}
use Rattle.model.specs.Image.{Expr, Pi, Real, Int, Var, Binary, Unary, expression, expression_at}
use Rattle.model.specs.Evaluate.{unary, binary, value_of, evaluate}
use Rattle.model.specs.Check.{entry_ok, expression_ok}
use Rattle.model.proofs.All.{test, All-every}
use Rattle.model.specs.All.{nil, cons}

module _ (image : List ℕ) (v : ℕ) (values : List Value) where
  -- an operand: of smaller number than its user e, and well formed to k levels
  abbrev pub operand : ℕ → ℕ → ℕ → Bool
  operand k e a = every (ltb a e ∷ expression_ok image v k a ∷ [])

  -- an entry stays well formed at one level more, and keeps its value, where each operand does
  entry_more : (k e p : ℕ) → ((a : ℕ) → T (expression_ok image v k a) → T (expression_ok image v (suc k) a) × (evaluate image values (suc k) a ≡ evaluate image values k a))
      → (x : Expr) → T (entry_ok image v (operand k e) p x)
      → T (entry_ok image v (operand (suc k) e) p x) × (value_of values (evaluate image values (suc k)) x ≡ value_of values (evaluate image values k) x)
  unfolding entry_ok value_of
  entry_more k e p h Pi t = (t, refl)
  entry_more k e p h (Real b) t = (t, refl)
  entry_more k e p h (Int n) t = (t, refl)
  entry_more k e p h (Var i) t = (t, refl)
  entry_more k e p h (Binary f a b) t =
      let ta = test 0 _ t in
      let tb = test 1 _ t in
      let x = h a (test 1 _ ta) in
      let y = h b (test 1 _ tb) in (
        All-every (cons (All-every (cons (test 0 _ ta) (cons x.0 nil))) (cons (All-every (cons (test 0 _ tb) (cons y.0 nil))) nil)),
        ap₂ (λ p q. and_then p λ u. and_then q λ z. binary f u z) x.1 y.1,
      )
  entry_more k e p h (Unary f a) t =
      let ta = test 0 _ t in
      let x = h a (test 1 _ ta) in
      (All-every (cons (All-every (cons (test 0 _ ta) (cons x.0 nil))) (cons (test 1 _ t) nil)), ap (λ p. and_then p λ u. unary f u) x.1)
  entry_more k e p h Expr.Unknown t = absurd t

  -- one level more changes nothing
  pub levels : (k e : ℕ) → T (expression_ok image v k e) → T (expression_ok image v (suc k) e) × (evaluate image values (suc k) e ≡ evaluate image values k e)
  unfolding expression_ok evaluate
  levels zero e t = absurd t
  levels (suc k) e t =
      let x = entry_more k e (expression_at image e) (levels k) (expression image e) (test 1 _ t) in
      (All-every (cons (test 0 _ t) (cons x.0 nil)), x.1)

  -- an entry accepted at k levels: each of its operands is accepted at k levels, and their values at k levels give its own
  pub node : (k e : ℕ) → T (expression_ok image v k e)
      → T (entry_ok image v (operand k e) (expression_at image e) (expression image e)) × (evaluate image values k e ≡ value_of values (evaluate image values k) (expression image e))
  unfolding expression_ok evaluate
  node k e t = let x = levels k e t in (test 1 _ x.0, sym x.1)
