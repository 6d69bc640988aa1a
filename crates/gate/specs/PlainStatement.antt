-- Statements that are no conditional.
use Rattle.std.specs.Prelude.{ℕ, ◌<◌, List}
use Rattle.model.specs.Image.{Statement, U, CX, Gate, Barrier, Measure, Reset, Conditional, Unknown, all_statements, statement}
use Rattle.model.specs.Accepted.{PlainFacts}
use Rattle.statement.specs.declared.Site.{Site}

-- the image has the statement of a site, which is no conditional and which the check accepted in a scope
pub record PlainStatement (image : List ℕ) (scope : ℕ) (site : Site) : Type 0 where
  pub listed : site.statement < all_statements image
  pub facts : PlainFacts image scope (statement image site.statement)

-- a statement that opens no gate
abbrev pub IsPrimitive : Statement → Type 0
IsPrimitive (U theta phi lambda q) = Unit {0}
IsPrimitive (CX a b) = Unit {0}
IsPrimitive (Gate g p a) = ⊥
IsPrimitive (Barrier a n) = Unit {0}
IsPrimitive (Measure q c) = Unit {0}
IsPrimitive (Reset q) = Unit {0}
IsPrimitive (Conditional r v t) = ⊥
IsPrimitive Unknown = ⊥
