-- What is wrong with a statement follows from its kind.
use Prim.Native.Nat.{ℕ}
use mathlib.Core.Path.{◌≡◌, refl, ◌∙◌}
use mathlib.Core.List.{List}
use Rattle.model.specs.Image.{Statement, Conditional, statement}
use Rattle.model.specs.Check.{plain_flaw, in_conditional, conditional_ok, conditional_flaw, flaw}
use Rattle.model.specs.Lists.{every}
use mathlib.Core.Bool.{and-false}
use Rattle.image.specs.declared.statement.Statement as code
use Rattle.image.specs.declared.statement.Statement.TheVariants as kinds
use Rattle.image.specs.Entries.{as_statement}
use Rattle.image_check.specs.Statements.{no_if}

module _ (image : List ℕ) (scope s : ℕ) where
  pub flaw_if : {r v t n : ℕ} → Conditional r v t ≡ statement image s → n ≡ conditional_flaw image scope s r v t → n ≡ flaw image scope s
  unfolding flaw plain_flaw
  flaw_if e h = rw (← e) h

  -- what is handed in for an if says nothing of another statement
  pub flaw_plain : (x : code.Statement) → ((r v t : ℕ) → x ≡ kinds.Conditional r v t → ⊥) → as_statement x ≡ statement image s → {n : ℕ} → n ≡ plain_flaw image no_if scope s (as_statement x) → n ≡ flaw image scope s
  unfolding flaw plain_flaw
  flaw_plain x other e h = rw (← e) (h ∙ same x other)
    where
      same : (x : code.Statement) → ((r v t : ℕ) → x ≡ kinds.Conditional r v t → ⊥) → plain_flaw image no_if scope s (as_statement x) ≡ plain_flaw image (conditional_flaw image scope s) scope s (as_statement x)
      same (kinds.U theta phi lambda q) other = refl
      same (kinds.CX a b) other = refl
      same (kinds.Gate g p a) other = refl
      same (kinds.Barrier a n) other = refl
      same (kinds.Measure q c) other = refl
      same (kinds.Reset q) other = refl
      same (kinds.Conditional r v t) other = absurd (other r v t refl)

  pub flaw_unknown : Statement.Unknown ≡ statement image s → 4 ≡ flaw image scope s
  unfolding flaw plain_flaw
  flaw_unknown e = rw (← e) refl

  -- an if holds no statement of an unknown kind
  pub if_unknown : (r v t : ℕ) → Statement.Unknown ≡ statement image t → 4 ≡ conditional_flaw image scope s r v t
  unfolding conditional_flaw conditional_ok every in_conditional
  if_unknown r v t e = rw (← e) (simp and-false)
