-- The numbers of a run's answer are those of document 01.
use mathlib.Core.Path.{refl}
use Rattle.model.specs.Run.{answer_numbers}
use Rattle.unit.proofs.numbers_of.Goals as goal

pub returns-in-Ok : goal.returns-in-Ok
unfolding answer_numbers
returns-in-Ok c = record { each = λ t. rw (c.in-Ok.is, c.new.ensures) refl }

pub returns-in-Err : goal.returns-in-Err
unfolding answer_numbers
returns-in-Err c = record { each = λ t. rw c.in-Err.is (c.from.ensures.each t) }
