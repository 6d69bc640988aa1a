-- Each expression is judged once, after its operands.
use mathlib.Core.Path.{◌≡◌}
use lib.ListN.{length}
use Rattle.image_entries.specs.Judging.{JudgementTable}
use Rattle.image_entries.proofs.expressions.judge_expressions.Given as goal

abbrev pub invariant-loop-e : goal.invariant-loop-e
invariant-loop-e l = (length l.judgements ≡ length l.initial.judgements) × JudgementTable l.image.words.now l.e l.judgements
