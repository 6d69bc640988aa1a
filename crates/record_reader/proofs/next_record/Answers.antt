-- The part of the slice that is handed back is the record at the position.
use native.Mathlib.Omega.{arith}
use Prim.Native.Nat.{◌+◌, ◌-◌, ◌≤◌}
use mathlib.Core.Path.{◌≡◌, sym, ap, ◌∙◌}
use lib.ListN.{length, take, drop}
use Rattle.std.specs.Prelude.{Ok}
use Rattle.model.specs.RecordReader.{next_at}
use Rattle.record_reader.specs.Answer.{next_words_of}
use Rattle.record_reader.proofs.LengthLaws.{record_part}
use Rattle.record_reader.proofs.next_record.Goals as goal
use Rattle.record_reader.proofs.next_record.Goals.{In-Ok-Some}

part : (b : In-Ok-Some) → (take (b.args.at + b.in-Ok-Some.n - b.args.at) (drop b.args.at b.args.words.now) ≡ next_words_of (next_at b.args.words.now b.args.at)) × (b.args.at + b.in-Ok-Some.n ≤ length b.args.words.now)
part b = record_part b.args.words.now b.args.at b.in-Ok-Some.n (sym (b.in-Ok-Some.is ∙ ap Ok b.in-Ok-Some.field-0-is) ∙ b.next_at.ensures)

pub overflow_add-result : goal.overflow_add-result
overflow_add-result c = record { fits = omega (arith, (part c).1) }

pub offset_bounds-words-at : goal.offset_bounds-words-at
offset_bounds-words-at c = record { fits = omega (arith, (part c).1) }

pub slice_bounds-result-end : goal.slice_bounds-result-end
slice_bounds-result-end c = omega (arith, (part c).1)

pub returns-in-Ok-Some : goal.returns-in-Ok-Some
returns-in-Ok-Some c = (part (goal.at.returns-in-Ok-Some c).In-Ok-Some).0
