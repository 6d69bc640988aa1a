-- Expressions that a statement names: each is accepted, and their values are those with the angles that its scope has.
use Prim.Native.Nat.{ℕ, zero, suc, ◌+◌}
use native.Mathlib.Omega.{arith}
use mathlib.Core.Path.{◌≡◌, refl, ap, ap₂}
use mathlib.Core.List.{List, [], ◌∷◌}
use lib.Dec.{T, ltb→lt}
use lib.ListN.{take}
use Rattle.value.specs.declared.Value.{Value}
use Rattle.value.specs.declared.Evaluation.TheVariants as evaluation
use Rattle.value.specs.Value.{and_then}
use Rattle.model.specs.Image.{Expr, Pi, Real, Int, Var, Binary, Unary, word, expression, expression_at}
use Rattle.model.specs.Evaluate.{unary, binary, value_of, evaluate, zero_value}
use Rattle.model.specs.Lists.{all}
use Rattle.model.specs.Check.{entry_ok, expression_ok}
use Rattle.model.specs.Steps.{also, parameter_values}
use Rattle.model.specs.All.{All}
use Rattle.model.proofs.ListLaws.{get_d_take}
use Rattle.model.proofs.All.{test, all-All, of-All, range-All, head-All, tail-All}
use Rattle.model.proofs.EvaluateLaws.{operand}
use Rattle.expression.specs.NamedExpressions.{named_at, ListedExpressions, NamesExpressions}

-- ---- an accepted expression reads the variables that it may, so the angles after them do not show

module _ (image : List ℕ) (v : ℕ) (angles : List Value) where
  entry_front : (k e p : ℕ) → ((a : ℕ) → T (expression_ok image v k a) → evaluate image (take v angles) k a ≡ evaluate image angles k a)
      → (x : Expr) → T (entry_ok image v (operand image v angles k e) p x) → value_of (take v angles) (evaluate image (take v angles) k) x ≡ value_of angles (evaluate image angles k) x
  unfolding entry_ok value_of
  entry_front k e p h Pi t = refl
  entry_front k e p h (Real b) t = refl
  entry_front k e p h (Int n) t = refl
  entry_front k e p h (Var i) t = ap evaluation.Value (get_d_take v i angles zero_value (ltb→lt i v (test 0 _ t)))
  entry_front k e p h (Binary f a b) t = ap₂ (λ x y. and_then x λ u. and_then y λ z. binary f u z) (h a (test 1 _ (test 0 _ t))) (h b (test 1 _ (test 1 _ t)))
  entry_front k e p h (Unary f a) t = ap (λ x. and_then x λ u. unary f u) (h a (test 1 _ (test 0 _ t)))
  entry_front k e p h Expr.Unknown t = refl

  evaluate_front : (k e : ℕ) → T (expression_ok image v k e) → evaluate image (take v angles) k e ≡ evaluate image angles k e
  unfolding expression_ok evaluate
  evaluate_front zero e t = refl
  evaluate_front (suc k) e t = entry_front k e (expression_at image e) (evaluate_front k) (expression image e) (test 1 _ t)

  values_front : (es : List ℕ) → All (λ e. T (expression_ok image v 32 e)) es → parameter_values image (take v angles) es ≡ parameter_values image angles es
  unfolding parameter_values
  values_front [] h = refl
  values_front (e ∷ es) h = ap₂ (λ x y. also x (expression_at image e) y) (evaluate_front 32 e (head-All h)) (values_front es (tail-All h))

  pub accepted_values : (es : List ℕ) → T (all (expression_ok image v 32) es) → parameter_values image (take v angles) es ≡ parameter_values image angles es
  accepted_values es t = values_front es (all-All _ _ t)

  -- expressions that a scope's statement names
  module _ {place n : ℕ} (l : ListedExpressions image v place n) where
    pub named : NamesExpressions image place n
    named =
        record {
          few = l.few.0;
          near = l.near;
          each = λ i h. record { variables = v; few = l.few.1; formed = range-All {P = λ i. T (expression_ok image v 32 (word image (place + i)))} 0 n i (of-All _ _ (all-All _ _ l.each)) (omega arith) (omega arith) };
        }

    pub listed_values : parameter_values image (take v angles) (named_at image place n) ≡ parameter_values image angles (named_at image place n)
    listed_values = accepted_values (named_at image place n) l.each
