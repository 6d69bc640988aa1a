-- The nine figures as nine weights, numbered from 0 in document 01's order, and what the code keeps of them.
use Rattle.std.specs.Prelude.{ℕ, suc, ◌^◌, ◌≤◌, ◌<◌, min, ◌≡◌, cond, List, [], ◌∷◌, eqb, ltb, length, get_or, Result, Ok, Err}
use Rattle.std.proofs.Math.Option.{Option}
use Rattle.model.specs.Image as image
use Rattle.model.specs.Image.{gates}
use Rattle.model.specs.Refusals as refusal
use Rattle.model.specs.Check.{Flaw, fine, bad, check}
use Rattle.image.specs.Answer.{refusal_flaw}
use Rattle.model.specs.Accepted.{calls_below}
use Rattle.model.specs.Tally.{gate_tally, plain_tally, conditional_tally, statement_tally, body_tally, opening_tally, TallyAnswer, tallied, refused}
use Rattle.tally.specs.declared.figures.Figures.{Figures}
use Rattle.tally.specs.declared.TallyError.{TallyError}
use Rattle.tally.specs.declared.TallyError.TheVariants as error

-- figures 0 to 6 count the records of kinds 1 to 7, figure 8 adds up words
unfoldable pub weight_of : ℕ → ℕ → ℕ → ℕ
weight_of j kind n = cond (ltb j 7) (cond (eqb kind (suc j)) 1 0) (cond (eqb j 8) n 0)

-- figure 7 counts body entries
unfoldable pub entry_of : ℕ → ℕ
entry_of j = cond (eqb j 7) 1 0

-- a figure, capped to the first number that is refused
abbrev pub capped : ℕ → ℕ
capped n = min n (2 ^ 32)

-- the figures in document 01's order
abbrev pub nine_of : Figures → List ℕ
nine_of f = f.u ∷ f.cx ∷ f.opaque ∷ f.barrier ∷ f.measure ∷ f.reset ∷ f.conditional ∷ f.entries ∷ f.words ∷ []

-- figure j of nine
unfoldable pub figure : Figures → ℕ → ℕ
figure f j = get_or (nine_of f) j 0

-- the figures of nothing
abbrev pub no_figures : Figures
no_figures = record { u = 0; cx = 0; opaque = 0; barrier = 0; measure = 0; reset = 0; conditional = 0; entries = 0; words = 0 }

-- nine figures by their numbers, each capped
unfoldable pub capped_figures : (ℕ → ℕ) → Figures
capped_figures f =
    record {
      u = capped (f 0);
      cx = capped (f 1);
      opaque = capped (f 2);
      barrier = capped (f 3);
      measure = capped (f 4);
      reset = capped (f 5);
      conditional = capped (f 6);
      entries = capped (f 7);
      words = capped (f 8);
    }

-- bodies opened n deep, for figure j
abbrev pub opening_for : List ℕ → ℕ → ℕ → Option (ℕ → ℕ)
opening_for image j n = opening_tally image (weight_of j) (entry_of j) n

-- what gate g's body comes to where bodies are opened n deep in it
abbrev pub body : List ℕ → ℕ → ℕ → ℕ → ℕ
body image n g j = body_tally image (weight_of j) (entry_of j) (opening_for image j n) (suc g)

-- figure j of a call of gate g, with bodies opened n deep
abbrev pub gate_figure : List ℕ → ℕ → ℕ → ℕ → ℕ
gate_figure image n g j = gate_tally image (weight_of j) (entry_of j) (opening_for image j n) g

-- figure j of a statement that is no if
abbrev pub plain_figure : List ℕ → ℕ → ℕ → image.Statement → ℕ → ℕ
plain_figure image n scope s j = plain_tally image (weight_of j) (entry_of j) (λ t. 0) (opening_for image j n) scope s

-- figure j of an if around statement t
abbrev pub conditional_figure : List ℕ → ℕ → ℕ → ℕ → ℕ → ℕ
conditional_figure image n scope t j = conditional_tally image (weight_of j) (entry_of j) (opening_for image j n) scope t

-- figure j of a statement
abbrev pub statement_figure : List ℕ → ℕ → ℕ → ℕ → ℕ → ℕ
statement_figure image n scope s j = statement_tally image (weight_of j) (entry_of j) (opening_for image j n) scope s

-- figure j of the statements of a scope
abbrev pub body_figure : List ℕ → ℕ → ℕ → ℕ → ℕ
body_figure image n scope j = body_tally image (weight_of j) (entry_of j) (opening_for image j n) scope

-- where bodies are opened n deep, the table has the figures of the body of each gate below m
pub record FigureTable (image : List ℕ) (n m : ℕ) (table : List Figures) : Type 0 where
  pub holds : (k g : ℕ) → n ≡ suc k → g < m → get_or table g no_figures ≡ capped_figures (body image k g)

-- a scope of an accepted image, with bodies opened n deep: the rows are those of the bodies that the scope may call
pub record ScopeOpened (image : List ℕ) (scope n : ℕ) (rows : List Figures) : Type 0 where
  pub accepted : check image ≡ fine
  pub within : scope ≤ gates image
  pub callable : length rows ≡ calls_below image scope
  pub opened : FigureTable image n (length rows) rows

-- the tally's answer where the check finds a flaw
abbrev pub refused_as : Flaw → TallyAnswer
refused_as fine = refused 0 0
refused_as (bad n p) = refused n p

-- what the answers say in document 01's numbers
abbrev pub tally_answer_of : Result Figures TallyError → TallyAnswer
tally_answer_of (Ok f) = tallied (nine_of f)
tally_answer_of (Err (error.Refused c)) = refused_as (refusal_flaw c)
tally_answer_of (Err error.TooLarge) = refused refusal.figure_too_large 0
