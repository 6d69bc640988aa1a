-- What the check says of an accepted expression entry, and the entry's value by its operands' values.
use types.Run.{OneOf}
use denote.Enum.Declared.{tag_of}
use Rattle.value.specs.contracts.Evaluation.{the_type}
use mathlib.Core.Logic.{⊎_elim}
use Prim.Native.Nat.{ℕ, zero, suc, ◌+◌, ◌-◌, ◌≤◌, ◌<◌, ◌^◌}
use borrow.Author.Tests.{ltb-true, ltb-false}
use native.Mathlib.Omega.{arith}
use mathlib.Core.Path.{◌≡◌, refl, sym, ap, ◌∙◌, subst}
use mathlib.Core.Bool.{Bool, true, false}
use mathlib.Core.List.{List, [], ◌∷◌}
use lib.Dec.{T, ltb, ltb→lt}
use lib.ListN.{get_or}
use Rattle.std.proofs.lemmas.List.{get_or_default}
use lib.Ieee.{Float, binary32, of_bits}
use Rattle.value.specs.declared.Value.{Value}
use Rattle.value.specs.declared.Evaluation.{Evaluation}
use Rattle.value.specs.declared.Evaluation.TheVariants as evaluation
use Rattle.value.specs.Value.{Sound, and_then, pi, integer, from_float}
use Rattle.value.specs.Promise.{EvaluatesTo}
use Rattle.model.specs.Image.{Expr, Pi, Real, Int, Var, Binary, Unary, Binop, Add, Sub, Mul, Div, Pow, Unop, Neg, Sin, Cos, Tan, Exp, Ln, Sqrt, expressions, expression, expression_of, expression_at}
use Rattle.model.specs.Check.{entry_ok, expression_ok}
use Rattle.model.specs.Evaluate.{unary, binary, value_of, evaluate, zero_value}
use Rattle.model.proofs.All.{test}
use Rattle.model.proofs.EvaluateLaws.{operand, node}
use Rattle.record_writer.specs.Promise.{SoundAngles}
use Rattle.expression.specs.Operands.{AcceptedExpression, NoValue}
use Rattle.expression.specs.KeptValues.{operands_within}

-- an evaluation that is no value: its tag is another than a value's
abbrev pub Refused : Evaluation → Type 0
Refused r = OneOf (1 ∷ 2 ∷ 3 ∷ 4 ∷ []) (tag_of the_type r)

pub no_value : (r : Evaluation) → Refused r → NoValue r
no_value r k x e = absurd (⊎_elim (λ e. omega arith) (λ h. ⊎_elim (λ e. omega arith) (λ i. ⊎_elim (λ e. omega arith) (λ e. omega arith) i) h) (subst Refused e k))

-- ---- accepted entries

module _ (image : List ℕ) (e : ℕ) (f : AcceptedExpression image e) where
  pub inside : e < expressions image
  unfolding expression_ok
  inside = ltb→lt e (expressions image) (test 0 _ f.formed)

-- an operand is an accepted entry of smaller number than its user
abbrev pub Lower : List ℕ → ℕ → ℕ → Type 0
Lower image e i = (i < e) × AcceptedExpression image i

-- what is known of an accepted entry of a number
abbrev pub EntryFacts : List ℕ → ℕ → Expr → Type 0
EntryFacts image e Pi = Unit {0}
EntryFacts image e (Real b) = b < 2 ^ 32
EntryFacts image e (Int n) = Unit {0}
EntryFacts image e (Var i) = i < 16
EntryFacts image e (Binary f a b) = Lower image e a × Lower image e b
EntryFacts image e (Unary f a) = Lower image e a
EntryFacts image e Expr.Unknown = ⊥

module _ (image : List ℕ) (e : ℕ) (f : AcceptedExpression image e) {x : Expr} (is : x ≡ expression image e) where
  abbrev v : ℕ
  v = f.variables

  lower : (i : ℕ) → T (operand image v [] 32 e i) → Lower image e i
  lower i t = (ltb→lt i e (test 0 _ t), record { variables = v; few = f.few; formed = test 1 _ t })

  facts_of : (y : Expr) → T (entry_ok image v (operand image v [] 32 e) (expression_at image e) y) → EntryFacts image e y
  unfolding entry_ok
  facts_of Pi t = tt
  facts_of (Real b) t = ltb→lt b (2 ^ 32) (test 0 _ t)
  facts_of (Int n) t = tt
  facts_of (Var i) t = omega (arith, ltb→lt i v (test 0 _ t), f.few)
  facts_of (Binary o a b) t = (lower a (test 0 _ t), lower b (test 1 _ t))
  facts_of (Unary o a) t = lower a (test 0 _ t)
  facts_of Expr.Unknown t = t

  pub facts : EntryFacts image e x
  facts = subst (EntryFacts image e) (sym is) (facts_of (expression image e) (node image v [] 32 e f.formed).0)

  pub value_is : (values : List Value) → evaluate image values 32 e ≡ value_of values (evaluate image values 32) x
  value_is values = (node image v values 32 e f.formed).1 ∙ ap (value_of values (evaluate image values 32)) (sym is)

  within_of : (n : ℕ) → expressions image ≤ n → (y : Expr) → EntryFacts image e y → operands_within n y
  within_of n h Pi t = tt
  within_of n h (Real b) t = tt
  within_of n h (Int k) t = tt
  within_of n h (Var i) t = tt
  within_of n h (Binary o a b) t = (omega (arith, inside image a t.0.1), omega (arith, inside image b t.1.1))
  within_of n h (Unary o a) t = omega (arith, inside image a t.1)
  within_of n h Expr.Unknown t = tt

  -- its operands are numbers of entries
  pub within : (n : ℕ) → expressions image ≤ n → operands_within n x
  within n h = within_of n h x facts

  -- what an entry comes to by its operands' values is its value
  pub worked_out : (values : List Value) {r : Evaluation} → EvaluatesTo (value_of values (evaluate image values 32) x) r → EvaluatesTo (evaluate image values 32 e) r
  worked_out values t = record { is = t.is ∙ sym (value_is values); sound = t.sound }

-- ---- the value of an entry

stays : (r : Evaluation) (f : Value → Evaluation) → NoValue r → r ≡ and_then r f
stays (evaluation.Value x) f k = absurd (k x refl)
stays evaluation.DivideByZero f k = refl
stays evaluation.Overflow f k = refl
stays (evaluation.ApproximateFail x) f k = refl
stays evaluation.FunctionOfFloats f k = refl

module _ (values : List Value) (op : ℕ → Evaluation) where
  pub over_two : (f : Binop) (a b : ℕ) {x y : Value} {r : Evaluation} → EvaluatesTo (op a) (evaluation.Value x) → EvaluatesTo (op b) (evaluation.Value y) → EvaluatesTo (binary f x y) r → EvaluatesTo (value_of values op (Binary f a b)) r
  unfolding value_of
  over_two f a b p q t = record { is = t.is ∙ sym (rw (sym p.is, sym q.is) refl); sound = t.sound }

  pub over_one : (f : Unop) (a : ℕ) {x : Value} {r : Evaluation} → EvaluatesTo (op a) (evaluation.Value x) → EvaluatesTo (unary f x) r → EvaluatesTo (value_of values op (Unary f a)) r
  unfolding value_of
  over_one f a p t = record { is = t.is ∙ sym (rw (sym p.is) refl); sound = t.sound }

  -- "The left operand's refusal wins."
  pub left_refuses_binary : (f : Binop) (a b : ℕ) {r : Evaluation} → EvaluatesTo (op a) r → NoValue r → EvaluatesTo (value_of values op (Binary f a b)) r
  unfolding value_of
  left_refuses_binary f a b {r} p k = record { is = sym (rw (sym p.is) (sym (stays r _ k))); sound = p.sound }

  pub right_refuses_binary : (f : Binop) (a b : ℕ) {x : Value} {r : Evaluation} → EvaluatesTo (op a) (evaluation.Value x) → EvaluatesTo (op b) r → NoValue r → EvaluatesTo (value_of values op (Binary f a b)) r
  unfolding value_of
  right_refuses_binary f a b {r = r} p q k = record { is = sym (rw (sym p.is, sym q.is) (sym (stays r _ k))); sound = q.sound }

  pub only_refuses : (f : Unop) (a : ℕ) {r : Evaluation} → EvaluatesTo (op a) r → NoValue r → EvaluatesTo (value_of values op (Unary f a)) r
  unfolding value_of
  only_refuses f a {r} p k = record { is = sym (rw (sym p.is) (sym (stays r _ k))); sound = p.sound }

  pub over_pi : {x : Value} → (x ≡ pi) × Sound x → EvaluatesTo (value_of values op Pi) (evaluation.Value x)
  unfolding value_of
  over_pi t = record { is = ap evaluation.Value t.0; sound = t.1 }

  pub over_real : (b : ℕ) {x : Float} {r : Evaluation} → x ≡ of_bits binary32 b → EvaluatesTo (from_float x) r → EvaluatesTo (value_of values op (Real b)) r
  unfolding value_of
  over_real b q t = record { is = t.is ∙ ap from_float q; sound = t.sound }

  pub over_int : (n : ℕ) {r : Evaluation} → EvaluatesTo (integer n) r → EvaluatesTo (value_of values op (Int n)) r
  unfolding value_of
  over_int n t = t

  -- the default that a read names does not show
  pub over_variable : (i : ℕ) (d : Value) → SoundAngles values → i < 16 → EvaluatesTo (value_of values op (Var i)) (evaluation.Value (get_or values i d))
  unfolding value_of
  over_variable i d s h =
      let e : get_or values i d ≡ get_or values i zero_value = get_or_default values i d zero_value (omega (arith, s.sixteen)) in
      record { is = ap evaluation.Value e; sound = rw e (s.each i h) }

-- ---- the value of an entry by the number of its kind

module _ (a b : ℕ) where
  -- the operation of a kind from 4 to 8, and of one from 9 to 15
  binop : (kind : ℕ) → 4 ≤ kind → kind < 9 → ((f : Binop) × (expression_of kind a b ≡ Binary f a b))
  unfolding expression_of
  binop (suc (suc (suc (suc zero)))) h l = (Add, refl)
  binop (suc (suc (suc (suc (suc zero))))) h l = (Sub, refl)
  binop (suc (suc (suc (suc (suc (suc zero)))))) h l = (Mul, refl)
  binop (suc (suc (suc (suc (suc (suc (suc zero))))))) h l = (Div, refl)
  binop (suc (suc (suc (suc (suc (suc (suc (suc zero)))))))) h l = (Pow, refl)
  binop zero h l = absurd (omega arith)
  binop (suc zero) h l = absurd (omega arith)
  binop (suc (suc zero)) h l = absurd (omega arith)
  binop (suc (suc (suc zero))) h l = absurd (omega arith)
  binop (suc (suc (suc (suc (suc (suc (suc (suc (suc n))))))))) h l = absurd (omega arith)

  unop : (n : ℕ) → n < 7 → ((f : Unop) × (expression_of (9 + n) a b ≡ Unary f a))
  unfolding expression_of
  unop zero l = (Neg, refl)
  unop (suc zero) l = (Sin, refl)
  unop (suc (suc zero)) l = (Cos, refl)
  unop (suc (suc (suc zero))) l = (Tan, refl)
  unop (suc (suc (suc (suc zero)))) l = (Exp, refl)
  unop (suc (suc (suc (suc (suc zero))))) l = (Ln, refl)
  unop (suc (suc (suc (suc (suc (suc zero)))))) l = (Sqrt, refl)
  unop (suc (suc (suc (suc (suc (suc (suc n))))))) l = absurd (omega arith)

  unop_of : (kind : ℕ) → 9 ≤ kind → kind < 16 → ((f : Unop) × (expression_of kind a b ≡ Unary f a))
  unop_of kind h l =
      let o = unop (kind - 9) (omega arith) in
      let same : 9 + (kind - 9) ≡ kind = omega arith in
      (o.0, sym (ap (λ (n : ℕ). expression_of n a b) same) ∙ o.1)

module _ (values : List Value) (op : ℕ → Evaluation) (a b : ℕ) where
  -- The refusal of the first operand, which may be the only one, is what the entry comes to, whatever the second would be.
  pub left_refuses : (kind : ℕ) (r : Evaluation) → 4 ≤ kind → kind < 16 → op a ≡ r → NoValue r → r ≡ value_of values op (expression_of kind a b)
  unfolding value_of
  left_refuses kind r h l e k = go (ltb kind 9) refl
    where
      go : (s : Bool) → ltb kind 9 ≡ s → r ≡ value_of values op (expression_of kind a b)
      go true s = let o = binop a b kind h (ltb-true kind 9 s) in sym (rw (o.1, e) (sym (stays r _ k)))
      go false s = let o = unop_of a b kind (ltb-false kind 9 s) l in sym (rw (o.1, e) (sym (stays r _ k)))

  -- Where the first operand has a value, the refusal of the second is what the entry comes to.
  pub right_refuses : (kind : ℕ) (x : Value) (r : Evaluation) → 4 ≤ kind → kind < 9 → op a ≡ evaluation.Value x → op b ≡ r → NoValue r → r ≡ value_of values op (expression_of kind a b)
  unfolding value_of
  right_refuses kind x r h l d e k = let o = binop a b kind h l in sym (rw (o.1, d, e) (sym (stays r _ k)))
