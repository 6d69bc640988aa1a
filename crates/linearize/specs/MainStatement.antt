-- Main statements and their steps.
use Rattle.std.specs.Prelude.{ℕ, ◌<◌, ◌≡◌, List, [], ◌∷◌, ◌++◌}
use Rattle.model.specs.Image.{all_statements, statement}
use Rattle.model.specs.Records.{Record}
use Rattle.model.specs.Steps.{Step, write, visit_statement, visit_body, opening, main_frame}
use Rattle.model.specs.Accepted.{Facts}
use Rattle.value.specs.declared.Value.{Value}
use Rattle.argument.specs.Frames.{scope_frame}
use Rattle.statement.specs.declared.Site.{Site}
use Rattle.gate.specs.RanSteps.{statement_steps}

-- the scope of a site is main, and the image has the site's statement, which the check accepted
pub record MainStatement (image : List ℕ) (scope : ℕ) (site : Site) : Type 0 where
  pub in_main : scope ≡ 0
  pub listed : site.statement < all_statements image
  pub facts : Facts image 0 (statement image site.statement)

-- the steps of a main statement; no statement of main reads the angles and qubits that are lent
abbrev pub main_statement_steps : List ℕ → List Value → List ℕ → Site → List Step
main_statement_steps image angles qubits site = visit_statement image (opening image site.levels_left) (scope_frame image 0 angles qubits) site.statement

-- what a conditional does after its start: its inner statement, and its end
abbrev pub inner_steps : List ℕ → ℕ → List Value → List ℕ → Site → List Step
inner_steps image scope angles qubits inner = statement_steps image scope angles qubits inner ++ write [] Record.ConditionalEnd ∷ []

-- the steps of all main statements
abbrev pub main_steps : List ℕ → ℕ → List Step
main_steps image levels-left = visit_body image (opening image levels-left) main_frame
