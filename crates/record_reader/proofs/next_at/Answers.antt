-- The answer is the record with its length, the end, or no record.
use native.Mathlib.Omega.{arith}
use mathlib.Core.Path.{◌≡◌, sym, ap, ◌∙◌}
use lib.ListN.{drop}
use Rattle.record_reader.specs.Answer.{whole_length, next_record_of}
use Rattle.record_reader.proofs.LengthLaws.{rest, at_end, past_end, answered_length, no_record, the_error}
use Rattle.record_reader.proofs.next_at.Goals as goal
use Rattle.record_reader.proofs.next_at.Goals.{After-length_of}

-- the length that is looked for behind the position
found : (b : After-length_of) → b.length_of.result ≡ whole_length (drop b.args.at b.args.words.now)
found b = b.length_of.ensures ∙ ap whole_length (rest b.args.words.now b.args.at)

pub returns-in_err-n : goal.returns-in_err-n
returns-in_err-n c = let e = no_record c.args.words.now c.args.at c.if-at-words.true (sym c.in_err-n.ensures.ok_part ∙ found (goal.at.returns-in_err-n c).After-length_of) in
    the_error _ c.from_residual.ensures.0 ∙ ap next_record_of e

pub returns-then-at-words : goal.returns-then-at-words
returns-then-at-words c = answered_length c.args.words.now c.args.at _ c.if-at-words.true (sym c.in_ok-n.ensures.ok_part ∙ found (goal.at.returns-then-at-words c).After-length_of)

pub returns-then-at-words-2 : goal.returns-then-at-words-2
returns-then-at-words-2 c = ap next_record_of (at_end c.args.words.now c.args.at c.if-at-words-2.true)

pub returns : goal.returns
returns c = ap next_record_of (past_end c.args.words.now c.args.at (λ h. omega arith) c.if-at-words-2.false)
