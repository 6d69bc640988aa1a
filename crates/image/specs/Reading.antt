-- What reading an image hands on: the image, where its contents add up, and the statements of a scope.
use Rattle.std.specs.Prelude.{ℕ, ◌-◌, ◌≤◌, ◌≡◌, true, false, List, Option, Some, None}
use Rattle.std.specs.declared.ops.Range.{Range}
use Rattle.model.specs.Lists.{range}
use Rattle.model.specs.Image.{all_statements, scope_statements}
use Rattle.model.specs.Check.{contents_ok}
use Rattle.image.specs.declared.Image.{Image}

-- the image that some words are, where their contents add up
abbrev pub ReadAs : List ℕ → Option Image → Type 0
ReadAs words None = contents_ok words ≡ false
ReadAs words (Some image) = (contents_ok words ≡ true) × (image.words.now ≡ words)

-- the statements of a scope, each of which the image has
pub record StatementsOf (image : List ℕ) (scope : ℕ) (r : Range ℕ) : Type 0 where
  pub statements_are : scope_statements image scope ≡ range r.start (r.end - r.start)
  pub rising : r.start ≤ r.end
  pub listed : r.end ≤ all_statements image
