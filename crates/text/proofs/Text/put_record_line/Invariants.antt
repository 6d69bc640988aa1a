-- The words before word i are put.
use Rattle.text.proofs.PutLaws.{Putting}
use Rattle.text.proofs.RecordLineLaws.{line_from}
use Rattle.text.proofs.Text.put_record_line.Given as goal

abbrev pub invariant-loop-i : goal.invariant-loop-i
invariant-loop-i l = Putting (line_from l.words 1) (line_from l.words l.i) l.initial.self l.self
