-- Document 01, "Check" and "Limits".
use Rattle.std.specs.Prelude.{ℕ, zero, suc, ◌+◌, ◌-◌, ◌^◌, Bool, true, false, ◌||◌, cond, length, leb, ltb, eqb}
use mathlib.Core.List.{List, [], ◌∷◌, map, flat_map}
use Rattle.model.specs.Lists.{range, sum, largest, every, all}
use Rattle.model.specs.Limits.{contents_words, statement_words, most_words, most_gates, most_parameters, most_arguments, most_elements, most_levels}
use Rattle.model.specs.Refusals as refusal
use Rattle.model.specs.Image.{Statement, U, CX, Gate, Barrier, Measure, Reset, Conditional, Unknown, statement, Expr, Pi, Real, Int, Var, Binary, Unary, expression}
use Rattle.model.specs.Image.{word, quantum_registers, classical_registers, gates, main_statements, all_statements, arguments, parameters, expressions, quantum_register_at, classical_register_at, gate_at, statement_at, expression_at, quantum_size, classical_size, gate_parameters, gate_arguments, gate_body, body_start, body_length, parameter, argument_register, argument_index, variables, scope_statements, argument_size, classical_argument_size}

-- nothing wrong, or a number with its place
pub data Flaw : Type 0 where
  fine : Flaw
  bad : (number place : ℕ) → Flaw

-- the first test that fails gives its number; 0 is none
unfoldable pub first_of : List (Bool × ℕ) → ℕ
first_of [] = 0
first_of (t ∷ ts) = cond t.0 (first_of ts) t.1

-- "each at the first bad one": the first entry whose number is not 0, with its place
unfoldable pub first_bad : {A : Type 0} → (A → ℕ) → (A → ℕ) → List A → Flaw
first_bad number place [] = fine
first_bad number place (x ∷ xs) = let later = first_bad number place xs in cond (eqb (number x) 0) later (bad (number x) (place x))

abbrev pub or_else : Flaw → Flaw → Flaw
or_else fine v = v
or_else (bad n p) v = bad n p

-- "CX and measure: sizes equal, or one is 1. Call: all sizes other than 1 equal." Each is 1 or the largest.
unfoldable pub matching : List ℕ → Bool
matching l = all (λ x. eqb x 1 || eqb x (largest l)) l

-- "2 for a register": "sizes 1 to 4,096; 4,096 qubits and 4,096 bits in all (the register that passes a total is the bad one)". Register r of some sizes:
unfoldable pub register_flaw : (ℕ → ℕ) → ℕ → ℕ
register_flaw size r = first_of ((every (leb 1 (size r) ∷ leb (size r) most_elements ∷ leb (sum (map size (range 0 (suc r)))) most_elements ∷ []), refusal.register) ∷ [])

-- n entries from a on, in a list of m: "An empty run of statements, parameters or arguments starts at most at its list's count."
abbrev pub fits : ℕ → ℕ → ℕ → Bool
fits a n m = leb (a + n) m

-- "8 call not downward": bodies "call only gates of smaller number"
unfoldable pub downward : ℕ → ℕ → Bool
downward zero g = true
downward (suc h) g = ltb g h

-- "An if takes one further statement of kind 1, 2, 3, 5 or 6."
unfoldable pub in_conditional : Statement → Bool
in_conditional (U a b c d) = true
in_conditional (CX a b) = true
in_conditional (Gate g p a) = true
in_conditional (Barrier a n) = false
in_conditional (Measure q c) = true
in_conditional (Reset q) = true
in_conditional (Conditional r v t) = false
in_conditional Unknown = false

module _ (image : List ℕ) where
  -- "1, place 0, for a wrong length, contents that don't add up, or over 128 gates": "9 to 8,192 words"
  unfoldable pub contents_ok : Bool
  contents_ok =
      every
      (leb contents_words (length image) ∷ leb (length image) most_words ∷ eqb (word image 0) (length image)
      ∷ eqb (expression_at image (expressions image)) (length image) ∷ leb (gates image) most_gates ∷ [])

  -- "3 for a gate entry (also a nonempty body not all of further statements)": "16 parameters and 16 arguments a gate", "1 with body or 0 opaque", "An opaque gate's last two are 0."
  unfoldable pub gate_ok : ℕ → Bool
  gate_ok g =
      every
      (leb (gate_parameters image g) most_parameters ∷ leb (gate_arguments image g) most_arguments ∷ leb (gate_body image g) 1
      ∷ fits (body_start image g) (body_length image g) (all_statements image)
      ∷ cond (eqb (gate_body image g) 0)
      (every (eqb (body_start image g) 0 ∷ eqb (body_length image g) 0 ∷ []))
      (eqb (body_length image g) 0 || leb (main_statements image) (body_start image g)) ∷ [])

  unfoldable pub gate_flaw : ℕ → ℕ
  gate_flaw g = first_of ((gate_ok g, refusal.gate_entry) ∷ [])

  -- "6 expression or a parameter's number": an entry with v variables at hand, at place p; `operand` judges its operands
  unfoldable pub entry_ok : ℕ → (ℕ → Bool) → ℕ → Expr → Bool
  entry_ok v operand p Pi = every (eqb (word image (p + 1)) 0 ∷ eqb (word image (p + 2)) 0 ∷ [])
  entry_ok v operand p (Real b) = every (ltb b (2 ^ 32) ∷ eqb (word image (p + 2)) 0 ∷ [])
  entry_ok v operand p (Int n) = eqb (word image (p + 2)) 0
  entry_ok v operand p (Var i) = every (ltb i v ∷ eqb (word image (p + 2)) 0 ∷ [])
  entry_ok v operand p (Binary f a b) = every (operand a ∷ operand b ∷ [])
  entry_ok v operand p (Unary f a) = every (operand a ∷ eqb (word image (p + 2)) 0 ∷ [])
  entry_ok v operand p Expr.Unknown = false

  -- "An operand has a smaller number than its user." "An expression has at most 32 levels, a leaf being one": of at most k levels
  unfoldable pub expression_ok : ℕ → ℕ → ℕ → Bool
  expression_ok v zero e = false
  expression_ok v (suc k) e = every (ltb e (expressions image) ∷ entry_ok v (λ a. every (ltb a e ∷ expression_ok v k a ∷ [])) (expression_at image e) (expression image e) ∷ [])

  -- "5 argument entry": "register (in a body: formal argument), then index+1, or 0 for the whole. In a body the second is 0."
  unfoldable pub argument_ok : ℕ → ℕ → Bool
  argument_ok zero a = every (ltb (argument_register image a) (quantum_registers image) ∷ leb (argument_index image a) (quantum_size image (argument_register image a)) ∷ [])
  argument_ok (suc g) a = every (ltb (argument_register image a) (gate_arguments image g) ∷ eqb (argument_index image a) 0 ∷ [])

  unfoldable pub classical_argument_ok : ℕ → Bool
  classical_argument_ok a = every (ltb (argument_register image a) (classical_registers image) ∷ leb (argument_index image a) (classical_size image (argument_register image a)) ∷ [])

  -- "unused words 0": those of statement s after its first n
  unfoldable pub unused : ℕ → ℕ → Bool
  unused s n = all (λ i. eqb (word image (statement_at image s + i)) 0) (range n (statement_words - n))

  -- What is wrong with statement s in a scope: "4 a kind not allowed there, an unused word, or a number or run of its own out of range, 8 call not downward, 6 expression or a parameter's number, 5 argument entry, 7 sizes, in this order". "Bodies hold kinds 1 to 4". 0 is nothing. What is wrong with an if is handed in.
  unfoldable pub plain_flaw : (ℕ → ℕ → ℕ → ℕ) → ℕ → ℕ → Statement → ℕ
  plain_flaw ifFlaw scope s (U theta phi lambda q) =
      first_of
      ((every (ltb theta (expressions image) ∷ ltb phi (expressions image) ∷ ltb lambda (expressions image) ∷ ltb q (arguments image) ∷ []), refusal.form)
      ∷ (all (expression_ok (variables image scope) most_levels) (theta ∷ phi ∷ lambda ∷ []), refusal.expression)
      ∷ (argument_ok scope q, refusal.argument) ∷ [])
  plain_flaw ifFlaw scope s (CX a b) =
      first_of
      ((every (unused s 3 ∷ ltb a (arguments image) ∷ ltb b (arguments image) ∷ []), refusal.form)
      ∷ (every (argument_ok scope a ∷ argument_ok scope b ∷ []), refusal.argument)
      ∷ (matching (argument_size image scope a ∷ argument_size image scope b ∷ []), refusal.sizes) ∷ [])
  plain_flaw ifFlaw scope s (Gate g p a) =
      first_of
      ((every (unused s 4 ∷ ltb g (gates image) ∷ fits p (gate_parameters image g) (parameters image) ∷ fits a (gate_arguments image g) (arguments image) ∷ []), refusal.form)
      ∷ (downward scope g, refusal.upward)
      ∷ (all (λ i. expression_ok (variables image scope) most_levels (parameter image i)) (range p (gate_parameters image g)), refusal.expression)
      ∷ (all (argument_ok scope) (range a (gate_arguments image g)), refusal.argument)
      ∷ (matching (map (argument_size image scope) (range a (gate_arguments image g))), refusal.sizes) ∷ [])
  plain_flaw ifFlaw scope s (Barrier a n) =
      first_of ((every (unused s 3 ∷ fits a n (arguments image) ∷ []), refusal.form) ∷ (all (argument_ok scope) (range a n), refusal.argument) ∷ [])
  plain_flaw ifFlaw scope s (Measure q c) =
      first_of
      ((every (eqb scope 0 ∷ unused s 3 ∷ ltb q (arguments image) ∷ ltb c (arguments image) ∷ []), refusal.form)
      ∷ (every (argument_ok scope q ∷ classical_argument_ok c ∷ []), refusal.argument)
      ∷ (matching (argument_size image scope q ∷ classical_argument_size image c ∷ []), refusal.sizes) ∷ [])
  plain_flaw ifFlaw scope s (Reset q) =
      first_of ((every (eqb scope 0 ∷ unused s 2 ∷ ltb q (arguments image) ∷ []), refusal.form) ∷ (argument_ok scope q, refusal.argument) ∷ [])
  plain_flaw ifFlaw scope s (Conditional r v t) = ifFlaw r v t
  plain_flaw ifFlaw scope s Unknown = refusal.form

  unfoldable pub conditional_ok : ℕ → ℕ → ℕ → ℕ → Bool
  conditional_ok scope s r t =
      every (eqb scope 0 ∷ unused s 4 ∷ ltb r (classical_registers image) ∷ leb (main_statements image) t ∷ ltb t (all_statements image) ∷ in_conditional (statement image t) ∷ [])

  -- "An if has its inner statement's faults, at its own place." Its value is any word.
  unfoldable pub conditional_flaw : ℕ → ℕ → ℕ → ℕ → ℕ → ℕ
  conditional_flaw scope s r v t = cond (conditional_ok scope s r t) (plain_flaw (λ r v t. refusal.form) scope t (statement image t)) refusal.form

  unfoldable pub flaw : ℕ → ℕ → ℕ
  flaw scope s = plain_flaw (conditional_flaw scope s) scope s (statement image s)

  -- each statement that is read, with its scope: main's in order, then the bodies' by gate number
  unfoldable pub every_statement : List (ℕ × ℕ)
  every_statement = flat_map (λ scope. map (λ s. (scope, s)) (scope_statements image scope)) (range 0 (suc (gates image)))

  -- "quantum registers first"
  unfoldable pub registers : Flaw
  registers =
      or_else (first_bad (register_flaw (quantum_size image)) (quantum_register_at image) (range 0 (quantum_registers image)))
      (first_bad (register_flaw (classical_size image)) (classical_register_at image) (range 0 (classical_registers image)))

  unfoldable pub gate_entries : Flaw
  gate_entries = first_bad gate_flaw (gate_at image) (range 0 (gates image))

  -- the first bad statement, which document 01 leaves open
  unfoldable pub statement_entries : Flaw
  statement_entries = first_bad (λ x. flaw x.0 x.1) (λ x. statement_at image x.1) every_statement

  unfoldable pub check : Flaw
  check = cond contents_ok (or_else registers (or_else gate_entries statement_entries)) (bad refusal.contents 0)
