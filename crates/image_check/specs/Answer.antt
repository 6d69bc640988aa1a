-- What the check answers of the statements, and of an image whose contents add up.
use Rattle.std.specs.Prelude.{List, ℕ, Result, Ok, Err}
use Rattle.model.specs.Check.{Flaw, or_else, registers, gate_entries, statement_entries}
use Rattle.model.specs.Refusals as number
use Rattle.image_check.specs.declared.StatementFlaw.{StatementFlaw}
use Rattle.image_check.specs.declared.StatementFlaw.TheVariants as flaw

-- the flaw of an image whose contents add up
abbrev pub entries_flaw : List ℕ → Flaw
entries_flaw image = or_else (registers image) (or_else (gate_entries image) (statement_entries image))

-- document 01's number for what is wrong with a statement
abbrev pub number_of : StatementFlaw → ℕ
number_of flaw.Form = number.form
number_of flaw.Upward = number.upward
number_of flaw.Expression = number.expression
number_of flaw.Argument = number.argument
number_of flaw.Sizes = number.sizes

-- the number that an answer about a statement tells, 0 where nothing is wrong
abbrev pub flaw_number : Result (Unit {0}) StatementFlaw → ℕ
flaw_number (Ok done) = 0
flaw_number (Err f) = number_of f
