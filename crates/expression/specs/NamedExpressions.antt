-- Expressions that the words of a statement name.
use Rattle.std.specs.Prelude.{ℕ, ◌+◌, ◌*◌, ◌≤◌, ◌<◌, List, map, T}
use Rattle.model.specs.Limits.{most_words, most_levels, most_parameters}
use Rattle.model.specs.Lists.{range, all}
use Rattle.model.specs.Check.{expression_ok}
use Rattle.model.specs.Image.{word}
use Rattle.expression.specs.Operands.{AcceptedExpression}

-- the n numbers from a place on
abbrev pub named_at : List ℕ → ℕ → ℕ → List ℕ
named_at image place n = map (λ i. word image (place + i)) (range 0 n)

-- each of n numbers from a place on names an expression that the check accepts in a scope of v variables
pub record ListedExpressions (image : List ℕ) (v place n : ℕ) : Type 0 where
  pub few : (n ≤ most_parameters) × (v ≤ most_parameters)
  pub near : place + n ≤ 2 * most_words
  pub each : T (all (expression_ok image v most_levels) (named_at image place n))

-- each of n numbers from a place on names an expression that the check accepts, in whichever scope
pub record NamesExpressions (image : List ℕ) (place n : ℕ) : Type 0 where
  pub few : n ≤ most_parameters
  pub near : place + n ≤ 2 * most_words
  pub each : (i : ℕ) → i < n → AcceptedExpression image (word image (place + i))
