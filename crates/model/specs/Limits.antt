-- Document 01, "The program image": how many words each entry has, and "Limits", each by its name.
use Rattle.std.specs.Prelude.{ℕ}

-- ---- words

-- "contents first: total words, then counts of" eight lists
abbrev pub contents_words : ℕ
contents_words = 9

-- "Gate, 5"
abbrev pub gate_words : ℕ
gate_words = 5

-- "Statement, 5"
abbrev pub statement_words : ℕ
statement_words = 5

-- "Argument, 2"
abbrev pub argument_words : ℕ
argument_words = 2

-- "Expression, 3"
abbrev pub expression_words : ℕ
expression_words = 3

-- ---- limits

-- "9 to 8,192 words"
abbrev pub most_words : ℕ
most_words = 8192

-- "128 gates"
abbrev pub most_gates : ℕ
most_gates = 128

-- "16 parameters and 16 arguments a gate"
abbrev pub most_parameters : ℕ
most_parameters = 16

abbrev pub most_arguments : ℕ
most_arguments = 16

-- "4,096 qubits and 4,096 bits in all"
abbrev pub most_elements : ℕ
most_elements = 4096

-- "An expression has at most 32 levels"
abbrev pub most_levels : ℕ
most_levels = 32

-- no image has room for more expressions
abbrev pub most_expressions : ℕ
most_expressions = 2727
