-- The judgements that the pass over the expressions finds tell of each one what the definition says.
use Prim.Native.Nat.{ℕ, zero, suc, ◌+◌, ◌≤◌, ◌<◌}
use native.Mathlib.Nat.{eq-or-lt_of_le}
use native.Mathlib.Omega.{arith}
use mathlib.Core.Path.{◌≡◌, refl, sym, ap, ◌∙◌}
use mathlib.Core.Bool.{Bool, true, false, ◌&&◌, cond, and-true, and-false, and_self}
use mathlib.Core.Logic.{◌⊎◌, inl, inr}
use mathlib.Core.List.{List, [], ◌∷◌}
use lib.Dec.{leb, ltb, eqb}
use lib.ListN.{length, get_or, set, length-set}
use lib.Seq.{get_or-set_same, get_or-set_other}
use borrow.Author.Tests.{lt-ltb, le-ltb, le-leb, lt-leb, eq-eqb, ne_eqb, ltb-true}
use native.Mathlib.Numerals.{add-one}
use Rattle.std.specs.Prelude.{Option, Some, None}
use Rattle.std.specs.Bool.{then_some}
use Rattle.image.specs.declared.expression.Expr as code
use Rattle.image.specs.declared.expression.Expr.TheVariants as kinds
use Rattle.image.specs.declared.expression.Binop as binop
use Rattle.image.specs.declared.expression.Unop as unop
use Rattle.image.specs.Entries.{as_expr}
use Rattle.image.specs.declared.Layout.{Layout}
use Rattle.image.specs.Layout.{LayoutOf}
use Rattle.model.specs.Lists.{every}
use Rattle.model.specs.Image.{Expr, Binop, Unop, Pi, Real, Int, Var, Binary, Unary, word, expression, expression_of, expression_at, expressions, parameter, parameter_at}
use Rattle.model.specs.Check.{entry_ok, expression_ok}
use Rattle.image_entries.specs.declared.judgement.Judgement.{Judgement}
use Rattle.image_entries.specs.Judging.{accepts, words_ok, JudgementTable, JudgementIs}

-- no judgement is of an expression without levels
none_of_zero : (j : Option Judgement) (v : ℕ) → false ≡ accepts j v 0
none_of_zero None v = refl
none_of_zero (Some j) v = rw (lt-leb j.level 0 (omega arith)) refl

-- ---- an entry without operands
module _ (j : Judgement) (one : j.level ≡ 1) where
  leaf_is : (ok : ℕ → Bool) → ((v : ℕ) → ok v ≡ leb j.variables v) → JudgementIs (Some j) (λ v k. ok v)
  leaf_is ok h = record { right = λ v k hv hk. h v ∙ rw (one, le-leb 1 (suc k) (omega arith)) refl }

  -- it is well formed as some test says, and needs no variable
  pub constant_is : {r : Option Judgement} (t : Bool) (ok : ℕ → Bool) → j.variables ≡ 0 → ((v : ℕ) → ok v ≡ t) → r ≡ then_some t j → JudgementIs r (λ v k. ok v)
  constant_is true ok none h e = rw e (leaf_is ok (λ v. h v ∙ rw none (sym (le-leb 0 v (omega arith)))))
  constant_is false ok none h e = rw e (record { right = λ v k hv hk. h v })

  pub variable_is : (ok : ℕ → Bool) (i : ℕ) → j.variables ≡ i + 1 → ((v : ℕ) → ok v ≡ ltb i v) → JudgementIs (Some j) (λ v k. ok v)
  variable_is ok i needs h = leaf_is ok (λ v. h v ∙ rw (needs, add-one i) refl)

pub no_variable : (ok : ℕ → Bool) (i : ℕ) → 16 ≤ i → ((v : ℕ) → v ≤ i → ok v ≡ false) → JudgementIs None (λ v k. ok v)
no_variable ok i l h = record { right = λ v k hv hk. h v (omega arith) }

module _ (a b : ℕ) where
  -- its last word is not 0
  pub leaf_second : (x : Expr) → ¬ (b ≡ 0) → JudgementIs None (λ v k. words_ok a b v x)
  unfolding entry_ok every
  leaf_second x z = record { right = λ v k hv hk. go x v }
    where
      go : (x : Expr) (v : ℕ) → words_ok a b v x ≡ false
      go Pi v = rw (ne_eqb b 0 z) (and-false (eqb a 0))
      go (Real i) v = rw (ne_eqb b 0 z) (and-false (ltb i 4294967296))
      go (Int n) v = ne_eqb b 0 z
      go (Var i) v = rw (ne_eqb b 0 z) (and-false (ltb i v))
      go (Binary f i k) v = refl
      go (Unary f i) v = refl
      go Expr.Unknown v = refl

  -- an operation is no leaf
  pub binary_no_leaf : (f : Binop) (i k : ℕ) → JudgementIs None (λ v m. words_ok a b v (Binary f i k))
  unfolding entry_ok every
  binary_no_leaf f i k = record { right = λ v m hv hm. refl }

  pub unary_no_leaf : (f : Unop) (i : ℕ) → JudgementIs None (λ v m. words_ok a b v (Unary f i))
  unfolding entry_ok every
  unary_no_leaf f i = record { right = λ v m hv hm. refl }

  pub pi_words : (v : ℕ) → words_ok a b v Pi ≡ (eqb a 0 && eqb b 0)
  unfolding entry_ok every
  pi_words v = rw (and-true (eqb b 0)) refl

  pub real_words : (i v : ℕ) → words_ok a b v (Real i) ≡ (ltb i 4294967296 && eqb b 0)
  unfolding entry_ok every
  real_words i v = rw (and-true (eqb b 0)) refl

  pub int_words : (n v : ℕ) → words_ok a b v (Int n) ≡ eqb b 0
  unfolding entry_ok
  int_words n v = refl

  pub var_past : (i v : ℕ) → v ≤ i → words_ok a b v (Var i) ≡ false
  unfolding entry_ok every
  var_past i v h = rw (le-ltb i v h) refl

  module _ (z : b ≡ 0) (v : ℕ) where
    pub var_words : (i : ℕ) → words_ok a b v (Var i) ≡ ltb i v
    unfolding entry_ok every
    var_words i = rw (eq-eqb b 0 z) (and-true (ltb i v))

-- ---- the words of an expression stand in the image
pub words_inside : (image : List ℕ) (l : Layout) (e : ℕ) → LayoutOf image l → e < l.expressions → expression_at image e + 3 ≤ length image
words_inside image l e laid h = omega (arith, laid.whole, laid.expressions_is, h)

-- what they say is the expression
pub words_say : (image : List ℕ) (e at : ℕ) {x : Expr} → at ≡ expression_at image e → x ≡ expression_of (word image at) (word image (at + 1)) (word image (at + 2)) → x ≡ expression image e
unfolding expression
words_say image e at is h = h ∙ rw is refl

-- ---- expression e of an image, by what its words say
module _ (image : List ℕ) (e : ℕ) where
  abbrev operand_ok : ℕ → ℕ → ℕ → Bool
  operand_ok v k i = every (ltb i e ∷ expression_ok image v k i ∷ [])

  module _ (inside : e < expressions image) {x : Expr} (is : x ≡ expression image e) where
    by_entry : (v k : ℕ) → expression_ok image v (suc k) e ≡ entry_ok image v (operand_ok v k) (expression_at image e) x
    unfolding expression_ok every
    by_entry v k = rw (lt-ltb e (expressions image) inside, ← is) (and-true _)

  module _ (inside : e < expressions image) where
    -- no entry of an unknown kind is well formed
    pub judged_unknown : Expr.Unknown ≡ expression image e → JudgementIs None (λ v k. expression_ok image v (suc k) e)
    unfolding entry_ok
    judged_unknown is = record { right = λ v k hv hk. by_entry inside is v k }

    -- an entry without operands is judged by its words alone
    pub judged_leaf : {at a b : ℕ} {j : Option Judgement} (leaf : code.Expr) → as_expr leaf ≡ expression image e → at ≡ expression_at image e → a ≡ word image (at + 1) → b ≡ word image (at + 2)
        → ((f : binop.Binop) (i k : ℕ) → leaf ≡ kinds.Binary f i k → ⊥) → ((f : unop.Unop) (i : ℕ) → leaf ≡ kinds.Unary f i → ⊥)
        → JudgementIs j (λ v k. words_ok a b v (as_expr leaf)) → JudgementIs j (λ v k. expression_ok image v (suc k) e)
    unfolding entry_ok every
    judged_leaf {at} {a} {b} leaf is at-is a-is b-is n2 n1 t =
        record {
          right = λ v k hv hk.
              by_entry inside is v k ∙ rw (← at-is) (same leaf v k n2 n1 ∙ rw (← a-is, ← b-is) (t.right v k hv hk));
        }
      where
        same : (leaf : code.Expr) (v k : ℕ) → ((f : binop.Binop) (i m : ℕ) → leaf ≡ kinds.Binary f i m → ⊥) → ((f : unop.Unop) (i : ℕ) → leaf ≡ kinds.Unary f i → ⊥)
            → entry_ok image v (operand_ok v k) at (as_expr leaf) ≡ words_ok (word image (at + 1)) (word image (at + 2)) v (as_expr leaf)
        same kinds.Pi v k n2 n1 = refl
        same (kinds.Real i) v k n2 n1 = refl
        same (kinds.Int n) v k n2 n1 = refl
        same (kinds.Var i) v k n2 n1 = refl
        same (kinds.Binary f i m) v k n2 n1 = absurd (n2 f i m refl)
        same (kinds.Unary f i) v k n2 n1 = absurd (n1 f i refl)

    -- the last word of an operation on one operand is unused
    pub judged_used : {f : Unop} {a at w : ℕ} → Unary f a ≡ expression image e → at ≡ expression_at image e → w ≡ word image (at + 2) → ¬ (w ≡ 0) → JudgementIs None (λ v k. expression_ok image v (suc k) e)
    unfolding entry_ok every
    judged_used {a = a} is at-is w-is z =
        record { right = λ v k hv hk. by_entry inside is v k ∙ rw (← at-is, ← w-is, ne_eqb _ 0 z) (and-false (operand_ok v k a)) }

    -- an operation over operands that the table tells of
    module _ {table : List (Option Judgement)} (tells : JudgementTable image e table) where
      abbrev operand : ℕ → Option Judgement
      operand i = cond (ltb i e) (get_or table i None) None

      operand_is : (i v k : ℕ) → v ≤ 16 → k < 32 → operand_ok v k i ≡ accepts (operand i) v k
      unfolding every
      operand_is i v k hv hk = go (ltb i e) refl
        where
          go : (t : Bool) → ltb i e ≡ t → (t && (expression_ok image v k i && true)) ≡ accepts (cond t (get_or table i None) None) v k
          go true t = and-true _ ∙ tells.right i (ltb-true i e t) v k hv (omega arith)
          go false t = refl

      pub judged_binary : {f : Binop} {a b : ℕ} {j x y : Option Judgement} → Binary f a b ≡ expression image e
          → x ≡ cond (ltb a e) (get_or table a None) None → y ≡ cond (ltb b e) (get_or table b None) None
          → JudgementIs j (λ v k. accepts x v k && accepts y v k) → JudgementIs j (λ v k. expression_ok image v (suc k) e)
      unfolding entry_ok every
      judged_binary {a = a} {b} is x-is y-is t =
          record {
            right = λ v k hv hk.
                by_entry inside is v k
                ∙ rw (and-true (operand_ok v k b), operand_is a v k hv hk, operand_is b v k hv hk, ← x-is, ← y-is) (t.right v k hv hk);
          }

      pub judged_unary : {f : Unop} {a at w : ℕ} {j x : Option Judgement} → Unary f a ≡ expression image e → x ≡ cond (ltb a e) (get_or table a None) None
          → at ≡ expression_at image e → w ≡ word image (at + 2) → w ≡ 0
          → JudgementIs j (λ v k. accepts x v k && accepts x v k) → JudgementIs j (λ v k. expression_ok image v (suc k) e)
      unfolding entry_ok every
      judged_unary {a = a} {x = x} is x-is at-is w-is unused t =
          record {
            right = λ v k hv hk.
                by_entry inside is v k
                ∙ rw (← at-is, ← w-is, eq-eqb _ 0 unused, and-true (operand_ok v k a), operand_is a v k hv hk, ← x-is) (sym (and_self (accepts x v k)) ∙ t.right v k hv hk);
          }

      -- an operation whose first operand is not well formed
      pub binary_without : {f : Binop} {a b : ℕ} → Binary f a b ≡ expression image e → None ≡ cond (ltb a e) (get_or table a None) None → JudgementIs None (λ v k. expression_ok image v (suc k) e)
      unfolding entry_ok every
      binary_without {a = a} is x-is = record { right = λ v k hv hk. by_entry inside is v k ∙ rw (operand_is a v k hv hk, ← x-is) refl }

      pub unary_without : {f : Unop} {a : ℕ} → Unary f a ≡ expression image e → None ≡ cond (ltb a e) (get_or table a None) None → JudgementIs None (λ v k. expression_ok image v (suc k) e)
      unfolding entry_ok every
      unary_without {a = a} is x-is = record { right = λ v k hv hk. by_entry inside is v k ∙ rw (operand_is a v k hv hk, ← x-is) refl }

-- what is not well formed as an operand makes no operation
pub over_none : (x : Option Judgement) → JudgementIs None (λ v k. accepts x v k && accepts None v k)
over_none x = record { right = λ v k hv hk. and-false (accepts x v k) }

-- ---- the table
-- the table with one entry more
pub judged_next : {image : List ℕ} {e : ℕ} {j : Option Judgement} {table : List (Option Judgement)} → e < length table → JudgementTable image e table
    → JudgementIs j (λ v k. expression_ok image v (suc k) e) → JudgementTable image (e + 1) (set table e j)
unfolding expression_ok
judged_next {image} {e} {j} {table} h t here =
    record {
      fits = omega (arith, length-set table e j);
      right = λ i l v k hv hk. go i (eq-or-lt_of_le (omega arith)) v k hv hk;
    }
  where
    this : (v k : ℕ) → v ≤ 16 → k ≤ 32 → expression_ok image v k e ≡ accepts j v k
    this v zero hv hk = none_of_zero j v
    this v (suc k) hv hk = here.right v k hv (omega arith)

    go : (i : ℕ) → (i ≡ e) ⊎ (i < e) → (v k : ℕ) → v ≤ 16 → k ≤ 32 → expression_ok image v k i ≡ accepts (get_or (set table e j) i None) v k
    go i (inl d) v k hv hk = rw (d, get_or-set_same table e j None h) (this v k hv hk)
    go i (inr l) v k hv hk = rw (get_or-set_other table e i j None (λ d. omega arith)) (t.right i l v k hv hk)

-- an expression past the last
pub past_none : (image : List ℕ) (v k e : ℕ) → expressions image ≤ e → false ≡ expression_ok image v k e
unfolding expression_ok every
past_none image v zero e h = refl
past_none image v (suc k) e h = sym (rw (le-ltb e (expressions image) h) refl)

-- ---- parameters
abbrev pub parameter_ok : List ℕ → ℕ → ℕ → Bool
parameter_ok image v p = expression_ok image v 32 (parameter image p)

pub parameter_judged : (image : List ℕ) (v p at e : ℕ) (r : Bool) → at ≡ parameter_at image p → e ≡ word image at → r ≡ expression_ok image v 32 e → parameter_ok image v p ≡ r
parameter_judged image v p at e r a-is e-is r-is = sym (r-is ∙ ap (expression_ok image v 32) (e-is ∙ ap (word image) a-is))
