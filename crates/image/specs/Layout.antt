-- What is known of an image that was read: its counts where its contents add up, and where its entries stand.
use Rattle.std.specs.Prelude.{ℕ, ◌+◌, ◌≤◌, ◌<◌, min, ◌≡◌, List, [], ◌∷◌, length, T}
use Rattle.model.specs.Image.{word, quantum_registers, classical_registers, gates, main_statements, all_statements, arguments, parameters, expressions, expression_at}
use Rattle.model.specs.Check.{gate_ok}
use Rattle.model.specs.Limits.{most_gates, most_words}
use Rattle.image.specs.declared.Layout.{Layout}

-- the contents of an image with these counts, as if all statements were main's, since no place depends on that; its length is left out
abbrev pub contents_with : Layout → List ℕ
contents_with l =
    0 ∷ l.quantum_registers ∷ l.classical_registers ∷ l.gates ∷ l.statements ∷ 0
    ∷ l.arguments ∷ l.parameters ∷ l.expressions ∷ []

-- the most expressions of a program that has few
abbrev pub few_expressions : ℕ
few_expressions = 128

-- a number so small that no place worked out from it wraps
abbrev pub Small : ℕ → Type 0
Small n = n ≤ 262144

-- a place so small that no place near it wraps
abbrev pub SmallPlace : ℕ → Type 0
SmallPlace at = at ≤ 4294967296

-- the layout has the image's counts, and the image is as long as they say
pub record LayoutOf (image : List ℕ) (l : Layout) : Type 0 where
  pub quantum_registers_is : l.quantum_registers ≡ quantum_registers image
  pub classical_registers_is : l.classical_registers ≡ classical_registers image
  pub gates_is : l.gates ≡ gates image
  pub main_statements_is : l.main_statements ≡ main_statements image
  pub statements_is : l.statements ≡ all_statements image
  pub arguments_is : l.arguments ≡ arguments image
  pub parameters_is : l.parameters ≡ parameters image
  pub expressions_is : l.expressions ≡ expressions image
  pub whole : expression_at image (expressions image) ≡ length image
  pub short : length image ≤ most_words
  pub few_gates : gates image ≤ most_gates

-- counts with which each place up to the image's end is a small number
pub record WithinLimits (l : Layout) : Type 0 where
  pub small : (e : ℕ) → e ≤ l.expressions → Small (expression_at (contents_with l) e)

-- r is the place of entry i: `at` says of which list, as gate_at
pub record PlaceIn (l : Layout) (at : List ℕ → ℕ → ℕ) (i r : ℕ) : Type 0 where
  pub small : SmallPlace r
  -- by the counts alone
  pub counted : r ≡ at (contents_with l) i
  -- in each image that has them
  pub in_image : (image : List ℕ) → LayoutOf image l → r ≡ at image i

-- r is a place, and so small that no place near it wraps
pub record PlaceIs (place r : ℕ) : Type 0 where
  pub small : SmallPlace r
  pub is : r ≡ place

-- counts so small that what they come to cannot wrap
pub record FewEntries (l : Layout) : Type 0 where
  pub few_quantum_registers : Small l.quantum_registers
  pub few_classical_registers : Small l.classical_registers
  pub few_gates : Small l.gates
  pub few_statements : Small l.statements
  pub few_arguments : Small l.arguments
  pub few_parameters : Small l.parameters
  pub few_expressions : Small l.expressions

-- the counts as the contents have them, each capped where it passes any image's length
pub record CappedCounts (image : List ℕ) (l : Layout) : Type 0 where
  pub quantum_registers_is : l.quantum_registers ≡ min (quantum_registers image) 8193
  pub classical_registers_is : l.classical_registers ≡ min (classical_registers image) 8193
  pub gates_is : l.gates ≡ min (gates image) 8193
  pub main_statements_is : l.main_statements ≡ min (main_statements image) 8193
  pub statements_is : l.statements ≡ min (main_statements image) 8193 + min (word image 5) 8193
  pub arguments_is : l.arguments ≡ min (arguments image) 8193
  pub parameters_is : l.parameters ≡ min (parameters image) 8193
  pub expressions_is : l.expressions ≡ min (expressions image) 8193

-- every gate entry is well formed
pub record GatesAccepted (image : List ℕ) : Type 0 where
  pub each : (g : ℕ) → g < gates image → T (gate_ok image g)
