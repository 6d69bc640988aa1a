-- Document 01, "Tally": nine figures at a depth, whole numbers of any size. "Only image and depth enter".
use Rattle.std.specs.Prelude.{ℕ, zero, suc, ◌+◌, ◌-◌, ◌*◌, cond, List, [], ◌∷◌, ◌++◌, map, eqb, leb}
use Rattle.std.proofs.Math.Option.{Option, none, some}
use Rattle.model.specs.Lists.{range, sum, largest, all}
use Rattle.model.specs.Refusals as refusal
use Rattle.model.specs.Image.{Statement, U, CX, Gate, Barrier, Measure, Reset, Conditional, Unknown, statement, gate_parameters, gate_arguments, gate_body, qubits, bits, main_statements, argument_size, classical_argument_size, rounds, scope_statements}
use Rattle.model.specs.Check.{Flaw, fine, bad, check}

-- Each figure adds something up: `weight kind words` for a record, and `entry` for a body entry. `opened` says what a scope's statements come to where a body is opened.
module _ (image : List ℕ) (weight : ℕ → ℕ → ℕ) (entry : ℕ) where
  -- a gate with a body: "with a body and a depth above 1, one body entry and the body's statements at a depth less by 1. Otherwise a kind 3 of 4+4p+q words (p its parameters, 0 with a body; q its arguments)"
  unfoldable pub open_gate_tally : Option (ℕ → ℕ) → ℕ → ℕ
  open_gate_tally none g = weight 3 (4 + gate_arguments image g)
  open_gate_tally (some body) g = entry + body (suc g)

  -- "Call, each round"
  unfoldable pub gate_tally : Option (ℕ → ℕ) → ℕ → ℕ
  gate_tally opened g = cond (eqb (gate_body image g) 0) (weight 3 (4 + 4 * gate_parameters image g + gate_arguments image g)) (open_gate_tally opened g)

  -- "U, CX, measure, reset: a record a round, of 14, 3, 3, 2 words. Barrier: one record, of 2 words plus its argument sizes added up." What an if comes to is handed in.
  unfoldable pub plain_tally : (ℕ → ℕ) → Option (ℕ → ℕ) → ℕ → Statement → ℕ
  plain_tally ifComes opened scope (U theta phi lambda q) = rounds image scope (q ∷ []) * weight 1 14
  plain_tally ifComes opened scope (CX a b) = rounds image scope (a ∷ b ∷ []) * weight 2 3
  plain_tally ifComes opened scope (Gate g p a) = rounds image scope (range a (gate_arguments image g)) * gate_tally opened g
  plain_tally ifComes opened scope (Barrier a n) = weight 4 (2 + sum (map (argument_size image scope) (range a n)))
  plain_tally ifComes opened scope (Measure q c) = largest (argument_size image scope q ∷ classical_argument_size image c ∷ []) * weight 5 3
  plain_tally ifComes opened scope (Reset q) = rounds image scope (q ∷ []) * weight 6 2
  plain_tally ifComes opened scope (Conditional r v t) = ifComes t
  plain_tally ifComes opened scope Unknown = 0

  -- "If: a kind 7, 5 words with its end, and the inner statement."
  unfoldable pub conditional_tally : Option (ℕ → ℕ) → ℕ → ℕ → ℕ
  conditional_tally opened scope t = weight 7 4 + (plain_tally (λ t. 0) opened scope (statement image t) + weight 8 1)

  unfoldable pub statement_tally : Option (ℕ → ℕ) → ℕ → ℕ → ℕ
  statement_tally opened scope s = plain_tally (conditional_tally opened scope) opened scope (statement image s)

  unfoldable pub body_tally : Option (ℕ → ℕ) → ℕ → ℕ
  body_tally opened scope = sum (map (statement_tally opened scope) (scope_statements image scope))

  -- bodies opened n deep
  unfoldable pub opening_tally : ℕ → Option (ℕ → ℕ)
  opening_tally zero = none
  opening_tally (suc n) = some (body_tally (opening_tally n))

  -- "In all: the main statements at the depth given; if any, the head's 3 + 2·(qubits + bits) words too."
  unfoldable pub weight_tally : ℕ → ℕ
  weight_tally depth = cond (eqb (main_statements image) 0) 0 (weight 0 (3 + 2 * (qubits image + bits image)) + body_tally (opening_tally (depth - 1)) 0)

-- 1 for a record of the kind
abbrev pub of_kind : ℕ → ℕ → ℕ → ℕ
of_kind k kind n = cond (eqb kind k) 1 0

abbrev pub the_words : ℕ → ℕ → ℕ
the_words kind n = n

-- "records of each kind 1 to 7, body entries, the word bound"
unfoldable pub record_figure : List ℕ → ℕ → ℕ → ℕ
record_figure image depth kind = weight_tally image (of_kind kind) 0 depth

unfoldable pub entry_figure : List ℕ → ℕ → ℕ
entry_figure image depth = weight_tally image (λ kind n. 0) 1 depth

unfoldable pub word_bound : List ℕ → ℕ → ℕ
word_bound image depth = weight_tally image the_words 0 depth

unfoldable pub figures : List ℕ → ℕ → List ℕ
figures image depth = map (record_figure image depth) (range 1 7) ++ entry_figure image depth ∷ word_bound image depth ∷ []

-- ---- the operation: "Tally. Check's, then 16, place 0, exactly if any figure passes 4,294,967,295."

pub data TallyAnswer : Type 0 where
  tallied : (nine : List ℕ) → TallyAnswer
  refused : (number place : ℕ) → TallyAnswer

unfoldable pub if_accepted : Flaw → TallyAnswer → TallyAnswer
if_accepted fine a = a
if_accepted (bad n p) a = refused n p

unfoldable pub tally : List ℕ → ℕ → TallyAnswer
tally image depth = if_accepted (check image) (cond (all (λ n. leb n 4294967295) (figures image depth)) (tallied (figures image depth)) (refused refusal.figure_too_large 0))
