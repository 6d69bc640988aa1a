-- Document 01, "The program image": a list of words. Words past its end read as 0.
use Rattle.std.specs.Prelude.{ℕ, zero, suc, ◌+◌, ◌*◌, cond, List, [], ◌∷◌, map, get_or, eqb}
use Rattle.model.specs.Lists.{range, sum, largest}
use Rattle.model.specs.Limits.{contents_words, gate_words, statement_words, argument_words, expression_words}

-- ---- what an entry says

-- "Statement, 5, unused words 0. Kind 1 U: three expressions, argument. 2 CX: two arguments. 3 call: gate, first parameter, first argument. 4 barrier: first argument, how many. 5 measure: quantum argument, classical argument. 6 reset: argument. 7 if: classical register, value, statement."
pub data Statement : Type 0 where
  U : (theta phi lambda argument : ℕ) → Statement
  CX : (control target : ℕ) → Statement
  Gate : (gate parameter argument : ℕ) → Statement
  Barrier : (argument count : ℕ) → Statement
  Measure : (from to : ℕ) → Statement
  Reset : (argument : ℕ) → Statement
  Conditional : (register value statement : ℕ) → Statement
  Unknown : Statement

-- by its kind, with the four words after it
unfoldable pub statement_of : ℕ → ℕ → ℕ → ℕ → ℕ → Statement
statement_of kind a b c d =
    get_or
    (Unknown ∷ U a b c d ∷ CX a b ∷ Gate a b c ∷ Barrier a b ∷ Measure a b ∷ Reset a ∷ Conditional a b c ∷ [])
    kind Unknown

-- the operations of two operands, and of one
pub data Binop : Type 0 where
  Add Sub Mul Div Pow : Binop

pub data Unop : Type 0 where
  Neg Sin Cos Tan Exp Ln Sqrt : Unop

-- "Expression, 3, unused words 0: kind, two operands. Kinds 0 pi, 1 real (f32 bits, below 2^32), 2 integer, 3 variable (below the gate's parameter count, none in main), 4 + , 5 - , 6 times, 7 divide, 8 power, 9 negate, 10 sin, 11 cos, 12 tan, 13 exp, 14 ln, 15 sqrt."
pub data Expr : Type 0 where
  Pi : Expr
  Real : (bits : ℕ) → Expr
  Int : (n : ℕ) → Expr
  Var : (i : ℕ) → Expr
  Binary : Binop → (a b : ℕ) → Expr
  Unary : Unop → (a : ℕ) → Expr
  Unknown : Expr

unfoldable pub expression_of : ℕ → ℕ → ℕ → Expr
expression_of kind a b =
    get_or
    (Pi ∷ Real a ∷ Int a ∷ Var a
    ∷ Binary Add a b ∷ Binary Sub a b ∷ Binary Mul a b ∷ Binary Div a b ∷ Binary Pow a b
    ∷ Unary Neg a ∷ Unary Sin a ∷ Unary Cos a ∷ Unary Tan a ∷ Unary Exp a ∷ Unary Ln a ∷ Unary Sqrt a ∷ [])
    kind Expr.Unknown

-- ---- where it stands

module _ (image : List ℕ) where
  abbrev pub word : ℕ → ℕ
  word i = get_or image i 0

  -- "contents first: total words, then counts of quantum registers, classical registers, gates, main statements, further statements, arguments, parameters, expressions."
  abbrev pub quantum_registers : ℕ
  quantum_registers = word 1

  abbrev pub classical_registers : ℕ
  classical_registers = word 2

  abbrev pub gates : ℕ
  gates = word 3

  abbrev pub main_statements : ℕ
  main_statements = word 4

  -- main and further ones: "statements are numbered through"
  abbrev pub all_statements : ℕ
  all_statements = word 4 + word 5

  abbrev pub arguments : ℕ
  arguments = word 6

  abbrev pub parameters : ℕ
  parameters = word 7

  abbrev pub expressions : ℕ
  expressions = word 8

  -- "The bodies follow in that order without gaps." The place of each list's entry i: "A place is the index of an entry's first word in the image".
  abbrev pub quantum_register_at : ℕ → ℕ
  quantum_register_at i = contents_words + i

  abbrev pub classical_register_at : ℕ → ℕ
  classical_register_at i = quantum_register_at quantum_registers + i

  abbrev pub gate_at : ℕ → ℕ
  gate_at i = classical_register_at classical_registers + gate_words * i

  abbrev pub statement_at : ℕ → ℕ
  statement_at i = gate_at gates + statement_words * i

  abbrev pub argument_at : ℕ → ℕ
  argument_at i = statement_at all_statements + argument_words * i

  abbrev pub parameter_at : ℕ → ℕ
  parameter_at i = argument_at arguments + i

  -- past the last entry is the image's end
  abbrev pub expression_at : ℕ → ℕ
  expression_at i = parameter_at parameters + expression_words * i

  -- "Register, 1 word: size." A register's first qubit or bit is the sum of the sizes before it.
  abbrev pub quantum_size : ℕ → ℕ
  quantum_size r = word (quantum_register_at r)

  abbrev pub classical_size : ℕ → ℕ
  classical_size r = word (classical_register_at r)

  unfoldable pub first_qubit : ℕ → ℕ
  first_qubit r = sum (map quantum_size (range 0 r))

  unfoldable pub first_bit : ℕ → ℕ
  first_bit r = sum (map classical_size (range 0 r))

  -- qubits and bits in all
  abbrev pub qubits : ℕ
  qubits = first_qubit quantum_registers

  abbrev pub bits : ℕ
  bits = first_bit classical_registers

  -- "Gate, 5: parameter count, argument count, 1 with body or 0 opaque, first body statement, body length."
  abbrev pub gate_parameters : ℕ → ℕ
  gate_parameters g = word (gate_at g)

  abbrev pub gate_arguments : ℕ → ℕ
  gate_arguments g = word (gate_at g + 1)

  abbrev pub gate_body : ℕ → ℕ
  gate_body g = word (gate_at g + 2)

  abbrev pub body_start : ℕ → ℕ
  body_start g = word (gate_at g + 3)

  abbrev pub body_length : ℕ → ℕ
  body_length g = word (gate_at g + 4)

  unfoldable pub statement : ℕ → Statement
  statement s = let p = statement_at s in statement_of (word p) (word (p + 1)) (word (p + 2)) (word (p + 3)) (word (p + 4))

  -- "Argument, 2: register (in a body: formal argument), then index+1, or 0 for the whole."
  abbrev pub argument_register : ℕ → ℕ
  argument_register a = word (argument_at a)

  abbrev pub argument_index : ℕ → ℕ
  argument_index a = word (argument_at a + 1)

  -- "Parameter, 1: expression."
  abbrev pub parameter : ℕ → ℕ
  parameter p = word (parameter_at p)

  unfoldable pub expression : ℕ → Expr
  expression e = let p = expression_at e in expression_of (word p) (word (p + 1)) (word (p + 2))

  -- ---- where a statement stands. Its scope is 0 in main, and gate + 1 in that gate's body: the trace's own word.

  -- "variable (below the gate's parameter count, none in main)"
  unfoldable pub variables : ℕ → ℕ
  variables zero = 0
  variables (suc g) = gate_parameters g

  -- the numbers of a scope's statements, in order
  unfoldable pub scope_statements : ℕ → List ℕ
  scope_statements zero = range 0 main_statements
  scope_statements (suc g) = range (body_start g) (body_length g)

  -- "Size of an argument: 1 for an index or a formal, else its register's."
  unfoldable pub argument_size : ℕ → ℕ → ℕ
  argument_size zero a = cond (eqb (argument_index a) 0) (quantum_size (argument_register a)) 1
  argument_size (suc g) a = 1

  -- of a classical argument, which main alone has
  unfoldable pub classical_argument_size : ℕ → ℕ
  classical_argument_size a = cond (eqb (argument_index a) 0) (classical_size (argument_register a)) 1

  -- "Rounds: the largest size, 0 without arguments."
  unfoldable pub rounds : ℕ → List ℕ → ℕ
  rounds scope al = largest (map (argument_size scope) al)
