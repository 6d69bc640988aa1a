-- The first numbers are put, each behind a space.
use Rattle.text.proofs.NumberLineLaws.{PuttingNumbers}
use Rattle.text.proofs.Text.put_spaced_numbers.Given as goal

abbrev pub invariant-loop-n : goal.invariant-loop-n
invariant-loop-n l = PuttingNumbers l.numbers l.initial.self l.n-index l.self
