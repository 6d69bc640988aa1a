-- Values that are kept of expressions: none at first, and one more.
use Prim.Native.Nat.{ℕ, ◌≤◌, ◌<◌}
use native.Mathlib.Omega.{arith}
use mathlib.Core.Path.{◌≡◌, refl, sym, ap, ap₂, ◌∙◌, subst}
use mathlib.Core.Bool.{Bool, true, false, ◌&&◌}
use mathlib.Core.List.{List}
use lib.ListN.{length, get_or, set, length-set, replicate, get_or-replicate, length-replicate}
use lib.Seq.{get_or-set_same, get_or-set_other}
use lib.Dec.{eqb}
use borrow.Author.Tests.{eqb-true, eqb-false}
use Rattle.std.specs.Prelude.{Some}
use Rattle.value.specs.declared.Value.{Value}
use Rattle.value.specs.declared.Evaluation.{Evaluation}
use Rattle.value.specs.declared.Evaluation.TheVariants as evaluation
use Rattle.value.specs.Value.{and_then}
use Rattle.value.specs.Promise.{EvaluatesTo}
use Rattle.model.specs.Image.{Expr, Pi, Real, Int, Var, Binary, Unary, expressions, expression}
use Rattle.model.specs.Evaluate.{unary, binary, value_of, evaluate}
use Rattle.expression.specs.declared.KeptValue.{KeptValue}
use Rattle.expression.specs.declared.KeptValue.TheVariants.{Nothing, Once, Constant}
use Rattle.expression.specs.KeptValues.{known_value, is_kept_constant, from_constants, IsConstant, ConstantsKept, ValuesKept, Evaluated}
use Rattle.expression.specs.Operands.{AcceptedExpression}
use Rattle.expression.proofs.EntryLaws.{Lower, EntryFacts, facts, inside, value_is}

-- ---- none

-- nothing is kept at first
pub no_constants : (image : List ℕ) (n : ℕ) → expressions image ≤ n → ConstantsKept image (replicate n Nothing)
no_constants image n h =
    record {
      room = subst (λ (k : ℕ). expressions image ≤ k) (sym (length-replicate n Nothing)) h;
      each = λ e l x q. absurd (let z : ◌≡◌ {A = KeptValue} Nothing (Constant x) = sym (get_or-replicate n e Nothing Nothing (omega arith)) ∙ q in cc);
    }

unmarked : (k : KeptValue) (x : Value) → known_value false k ≡ Some x → k ≡ Constant x
unmarked Nothing x q = absurd (cc)
unmarked (Once y) x q = absurd (cc)
unmarked (Constant y) x q = let e : y ≡ x = cc in ap Constant e

-- without a mark no value is known but those of constants
pub keeps_none : (image : List ℕ) (angles : List Value) (n : ℕ) (t : List KeptValue) → expressions image ≤ n → ConstantsKept image t → ValuesKept image angles (replicate n false) t
keeps_none image angles n t few f =
    record {
      constants = f;
      marks = subst (λ (k : ℕ). expressions image ≤ k) (sym (length-replicate n false)) few;
      each = λ e l x q. f.each e l x (unmarked _ x (ap (λ (b : Bool). known_value b (get_or t e Nothing)) (sym (get_or-replicate n e false false (omega arith))) ∙ q)) angles;
    }

-- ---- constants

both_true : (a b : Bool) → (a && b) ≡ true → (a ≡ true) × (b ≡ true)
both_true true true q = (refl, refl)
both_true true false q = absurd (cc)
both_true false b q = absurd (cc)

kept_constant : (k : KeptValue) → is_kept_constant k ≡ true → (x : Value) × (k ≡ Constant x)
kept_constant Nothing q = absurd (cc)
kept_constant (Once x) q = absurd (cc)
kept_constant (Constant x) q = (x, refl)

module _ (image : List ℕ) (e : ℕ) (t : List KeptValue) (k : ConstantsKept image t) where
  operand_constant : (a : ℕ) → Lower image e a → is_kept_constant (get_or t a Nothing) ≡ true → IsConstant image a
  operand_constant a l q xs ys =
      let c = kept_constant (get_or t a Nothing) q in
      let h = inside image a l.1 in
      sym (k.each a h c.0 c.1 xs).is ∙ (k.each a h c.0 c.1 ys).is

  same_value : (x : Expr) → EntryFacts image e x → from_constants t x ≡ true → (xs ys : List Value) → value_of xs (evaluate image xs 32) x ≡ value_of ys (evaluate image ys 32) x
  unfolding value_of
  same_value Pi f q xs ys = refl
  same_value (Real b) f q xs ys = refl
  same_value (Int n) f q xs ys = refl
  same_value (Var i) f q xs ys = absurd (cc)
  same_value (Binary o a b) f q xs ys =
      let h = both_true _ _ q in
      ap₂ (λ (r s : Evaluation). and_then r λ x. and_then s λ y. binary o x y) (operand_constant a f.0 h.0 xs ys) (operand_constant b f.1 h.1 xs ys)
  same_value (Unary o a) f q xs ys = ap (λ (r : Evaluation). and_then r (unary o)) (operand_constant a f q xs ys)
  same_value Expr.Unknown f q xs ys = absurd f

  -- an entry is a constant whose operands are kept as constants
  pub entry_constant : AcceptedExpression image e → {x : Expr} → x ≡ expression image e → from_constants t x ≡ true → IsConstant image e
  entry_constant f {x} is q xs ys = value_is image e f is xs ∙ same_value x (facts image e f is) q xs ys ∙ sym (value_is image e f is ys)

-- ---- one more

-- an entry of a list in which one was put in anew: that one, or the one that it was
put_in : {A : Type 0} (t : List A) (e i : ℕ) (v d : A) (P : A → Type 0) → e < length t → (i ≡ e → P v) → (¬ (i ≡ e) → P (get_or t i d)) → P (get_or (set t e v) i d)
put_in t e i v d P h same other = go (eqb i e) refl
  where
    go : (b : Bool) → eqb i e ≡ b → P (get_or (set t e v) i d)
    go true b = let q = eqb-true i e b in rw q (rw (get_or-set_same t e v d h) (same q))
    go false b = let n = eqb-false i e b in rw (get_or-set_other t e i v d n) (other n)

module _ (image : List ℕ) (angles : List Value) (e : ℕ) (x : Value) (known : List Bool) (t : List KeptValue) (l : e < expressions image) (h : Evaluated image angles e (evaluation.Value x) known t) where
  k : ValuesKept image angles known t
  k = h.1

  room : e < length t
  room = omega (arith, l, k.constants.room)

  -- a value that is kept for this evaluation
  pub keeps_once : Evaluated image angles e (evaluation.Value x) (set known e true) (set t e (Once x))
  keeps_once = (
    h.0,
    record {
      constants = record { room = subst (λ (n : ℕ). expressions image ≤ n) (sym (length-set t e (Once x))) k.constants.room; each = λ i m. constant i m };
      marks = subst (λ (n : ℕ). expressions image ≤ n) (sym (length-set known e true)) k.marks;
      each = λ i m. value i m;
    },
  )
    where
      constant : (i : ℕ) → i < expressions image → (y : Value) → get_or (set t e (Once x)) i Nothing ≡ Constant y → (xs : List Value) → EvaluatesTo (evaluate image xs 32 i) (evaluation.Value y)
      constant i m =
          put_in t e i (Once x) Nothing (λ z. (y : Value) → z ≡ Constant y → (xs : List Value) → EvaluatesTo (evaluate image xs 32 i) (evaluation.Value y)) room
          (λ q y r. absurd (cc))
          (λ n. k.constants.each i m)

      value : (i : ℕ) → i < expressions image → (y : Value) → known_value (get_or (set known e true) i false) (get_or (set t e (Once x)) i Nothing) ≡ Some y → EvaluatesTo (evaluate image angles 32 i) (evaluation.Value y)
      value i m =
          put_in t e i (Once x) Nothing (λ z. (y : Value) → known_value (get_or (set known e true) i false) z ≡ Some y → EvaluatesTo (evaluate image angles 32 i) (evaluation.Value y)) room
          (λ q y r. let s : x ≡ y = this (get_or (set known e true) i false) y r in subst (λ w. EvaluatesTo (evaluate image angles 32 i) (evaluation.Value w)) s (rw q h.0))
          (λ n. put_in known e i true false (λ b. (y : Value) → known_value b (get_or t i Nothing) ≡ Some y → EvaluatesTo (evaluate image angles 32 i) (evaluation.Value y)) (omega (arith, l, k.marks)) (λ q. absurd (n q)) (λ n. k.each i m))
        where
          this : (b : Bool) (y : Value) → known_value b (Once x) ≡ Some y → x ≡ y
          this true y r = cc
          this false y r = absurd (cc)

  -- a value that is kept for the whole run
  pub keeps_constant : IsConstant image e → Evaluated image angles e (evaluation.Value x) known (set t e (Constant x))
  keeps_constant c = (
    h.0,
    record {
      constants = record { room = subst (λ (n : ℕ). expressions image ≤ n) (sym (length-set t e (Constant x))) k.constants.room; each = λ i m. constant i m };
      marks = k.marks;
      each = λ i m. value i m;
    },
  )
    where
      constant : (i : ℕ) → i < expressions image → (y : Value) → get_or (set t e (Constant x)) i Nothing ≡ Constant y → (xs : List Value) → EvaluatesTo (evaluate image xs 32 i) (evaluation.Value y)
      constant i m =
          put_in t e i (Constant x) Nothing (λ z. (y : Value) → z ≡ Constant y → (xs : List Value) → EvaluatesTo (evaluate image xs 32 i) (evaluation.Value y)) room
          (λ q y r xs. let s : x ≡ y = cc in subst (λ w. EvaluatesTo (evaluate image xs 32 i) (evaluation.Value w)) s (record { is = h.0.is ∙ c angles xs ∙ ap (evaluate image xs 32) (sym q); sound = h.0.sound }))
          (λ n. k.constants.each i m)

      value : (i : ℕ) → i < expressions image → (y : Value) → known_value (get_or known i false) (get_or (set t e (Constant x)) i Nothing) ≡ Some y → EvaluatesTo (evaluate image angles 32 i) (evaluation.Value y)
      value i m =
          put_in t e i (Constant x) Nothing (λ z. (y : Value) → known_value (get_or known i false) z ≡ Some y → EvaluatesTo (evaluate image angles 32 i) (evaluation.Value y)) room
          (λ q y r. let s : x ≡ y = cc in subst (λ w. EvaluatesTo (evaluate image angles 32 i) (evaluation.Value w)) s (rw q h.0))
          (λ n. k.each i m)
