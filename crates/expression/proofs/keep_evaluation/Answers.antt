-- A value is kept, for the whole run where no parameter goes into the entry; a refusal is handed on, and nothing is kept.
use mathlib.Core.Path.{sym, ◌∙◌}
use Rattle.expression.proofs.EntryLaws.{inside}
use Rattle.expression.proofs.KeptValuesLaws.{entry_constant, keeps_once, keeps_constant}
use Rattle.expression.proofs.keep_evaluation.Goals as goal

pub returns-then-is_constant : goal.returns-then-is_constant
returns-then-is_constant c = λ image f is angles h.
    keeps_constant image angles c.args.e _ c.args.known.now c.args.kept_values.now (inside image c.args.e f) (rw c.in-Value.is at h) (entry_constant image c.args.e c.args.kept_values.now h.1.constants f is (sym c.is_constant.ensures ∙ c.if-is_constant.true))

pub returns-else-is_constant : goal.returns-else-is_constant
returns-else-is_constant c = λ image f is angles h.
    keeps_once image angles c.args.e _ c.args.known.now c.args.kept_values.now (inside image c.args.e f) (rw c.in-Value.is at h)
