-- What is known of an image that the check accepts: of the whole, of each statement, and of each frame of its run. Contracts of the code behind the check cite it; it defines nothing new.
use Rattle.std.specs.Prelude.{ℕ, zero, suc, ◌+◌, ◌-◌, ◌*◌, ◌≤◌, ◌<◌, ◌≡◌, List, [], ◌∷◌, map, T, length}
use Rattle.model.specs.Lists.{range, all}
use Rattle.model.specs.All.{All}
use Rattle.model.specs.Limits.{most_gates, most_elements, most_levels}
use Rattle.model.specs.Image.{Statement, U, CX, Gate, Barrier, Measure, Reset, Conditional, Unknown, statement, expressions, arguments, parameters, gates, main_statements, all_statements, quantum_registers, classical_registers, quantum_size, classical_size, qubits, bits, gate_parameters, gate_arguments, parameter, variables, argument_size, classical_argument_size, scope_statements}
use Rattle.model.specs.Check.{gate_ok, expression_ok, argument_ok, classical_argument_ok, downward, matching, in_conditional, flaw}
use Rattle.model.specs.Claims.{is_qubit}

pub record Accepted (w : List ℕ) : Type 0 where
  pub few_gates : gates w ≤ most_gates
  pub qsizes : (r : ℕ) → r < quantum_registers w → 1 ≤ quantum_size w r
  pub csizes : (r : ℕ) → r < classical_registers w → 1 ≤ classical_size w r
  pub few_qubits : qubits w ≤ most_elements
  pub few_bits : bits w ≤ most_elements
  pub gate_entry : (g : ℕ) → g < gates w → T (gate_ok w g)
  pub flawless : (scope : ℕ) → scope ≤ gates w → All (λ s. flaw w scope s ≡ 0) (scope_statements w scope)

module _ (image : List ℕ) where
  -- a statement other than an if, in a scope
  abbrev pub PlainFacts : ℕ → Statement → Type 0
  PlainFacts scope (U theta phi lambda q) =
      (theta < expressions image) × (phi < expressions image) × (lambda < expressions image) × (q < arguments image)
      × T (all (expression_ok image (variables image scope) most_levels) (theta ∷ phi ∷ lambda ∷ [])) × T (argument_ok image scope q)
  PlainFacts scope (CX a b) =
      (a < arguments image) × (b < arguments image) × T (argument_ok image scope a) × T (argument_ok image scope b) × T (matching (argument_size image scope a ∷ argument_size image scope b ∷ []))
  PlainFacts scope (Gate g p a) =
      (g < gates image) × (p + gate_parameters image g ≤ parameters image) × (a + gate_arguments image g ≤ arguments image) × T (downward scope g)
      × T (all (λ i. expression_ok image (variables image scope) most_levels (parameter image i)) (range p (gate_parameters image g)))
      × T (all (argument_ok image scope) (range a (gate_arguments image g))) × T (matching (map (argument_size image scope) (range a (gate_arguments image g))))
  PlainFacts scope (Barrier a n) = (a + n ≤ arguments image) × T (all (argument_ok image scope) (range a n))
  PlainFacts scope (Measure q c) =
      (scope ≡ 0) × (q < arguments image) × (c < arguments image) × T (argument_ok image scope q) × T (classical_argument_ok image c) × T (matching (argument_size image scope q ∷ classical_argument_size image c ∷ []))
  PlainFacts scope (Reset q) = (scope ≡ 0) × (q < arguments image) × T (argument_ok image scope q)
  PlainFacts scope (Conditional r v t) = ⊥
  PlainFacts scope Unknown = ⊥

  -- any statement: an if with what it holds
  abbrev pub Facts : ℕ → Statement → Type 0
  Facts scope (Conditional r v t) =
      (scope ≡ 0) × (r < classical_registers image) × (main_statements image ≤ t) × (t < all_statements image) × T (in_conditional (statement image t)) × PlainFacts scope (statement image t)
  Facts scope (U a b c d) = PlainFacts scope (U a b c d)
  Facts scope (CX a b) = PlainFacts scope (CX a b)
  Facts scope (Gate g p a) = PlainFacts scope (Gate g p a)
  Facts scope (Barrier a n) = PlainFacts scope (Barrier a n)
  Facts scope (Measure q c) = PlainFacts scope (Measure q c)
  Facts scope (Reset q) = PlainFacts scope (Reset q)
  Facts scope Unknown = ⊥

  -- a scope's statements call only gates of a number below this
  abbrev pub calls_below : ℕ → ℕ
  calls_below zero = gates image
  calls_below (suc h) = h

  -- every one of some qubits is a declared one
  abbrev pub Declared : List ℕ → Type 0
  Declared qs = All (λ q. T (is_qubit image q)) qs

  -- a frame of an accepted program, by its scope, trace and qubits: in a body the trace has at most a frame for main and one for each gate above, and the formals' qubits are declared
  abbrev pub FrameOk : ℕ → List ℕ → List ℕ → Type 0
  FrameOk zero t qs = length t ≡ 0
  FrameOk (suc g) t qs = (g < gates image) × (length t ≤ 2 * (gates image - g)) × (length qs ≡ gate_arguments image g) × Declared qs
