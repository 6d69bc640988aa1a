-- What the pass over the expressions finds: of each well formed one its levels and how many variables it needs.
use Rattle.std.specs.Prelude.{ℕ, suc, ◌≤◌, ◌<◌, ◌≡◌, Bool, false, ◌&&◌, List, [], ◌∷◌, leb, get_or, length, Option, Some, None}
use Rattle.model.specs.Image.{Expr}
use Rattle.model.specs.Check.{entry_ok, expression_ok}
use Rattle.model.specs.Limits.{most_levels, most_parameters}
use Rattle.image_entries.specs.declared.judgement.Judgement.{Judgement}

-- whether an expression of some judgement is well formed to k levels with v variables
abbrev pub accepts : Option Judgement → ℕ → ℕ → Bool
accepts None v k = false
accepts (Some j) v k = leb j.level k && leb j.variables v

-- an entry with v variables whose last two words are a and b, and none of whose operands is well formed
abbrev pub words_ok : ℕ → ℕ → ℕ → Expr → Bool
words_ok a b v x = entry_ok (0 ∷ a ∷ b ∷ []) v (λ i. false) 0 x

-- a judgement tells whether an expression is well formed with v variables, its operands having at most k levels
pub record JudgementIs (j : Option Judgement) (ok : ℕ → ℕ → Bool) : Type 0 where
  pub right : (v k : ℕ) → v ≤ most_parameters → k < most_levels → ok v k ≡ accepts j v (suc k)

-- the table tells of each of n expressions whether it is well formed to k levels with v variables
pub record JudgementTable (image : List ℕ) (n : ℕ) (judgements : List (Option Judgement)) : Type 0 where
  pub fits : n ≤ length judgements
  pub right : (e : ℕ) → e < n → (v k : ℕ) → v ≤ most_parameters → k ≤ most_levels → expression_ok image v k e ≡ accepts (get_or judgements e None) v k
