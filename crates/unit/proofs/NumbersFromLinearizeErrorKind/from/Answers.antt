-- The numbers of each refusal are those of document 01.
use mathlib.Core.Path.{refl}
use Rattle.model.specs.Run.{answer_numbers}
use Rattle.unit.proofs.NumbersFromLinearizeErrorKind.from.Goals as goal

pub returns-in-DivideByZero : goal.returns-in-DivideByZero
unfolding answer_numbers
returns-in-DivideByZero c = record { each = λ t. rw (c.in-DivideByZero.is, c.new.ensures) refl }

pub returns-in-ApproximateFail : goal.returns-in-ApproximateFail
unfolding answer_numbers
returns-in-ApproximateFail c = record { each = λ t. rw (c.in-ApproximateFail.is, c.new-in-ApproximateFail.ensures, c.f32_to_bits.ensures) refl }

pub returns-in-NumericalOverflow : goal.returns-in-NumericalOverflow
unfolding answer_numbers
returns-in-NumericalOverflow c = record { each = λ t. rw (c.in-NumericalOverflow.is, c.new-in-NumericalOverflow.ensures) refl }

pub returns-in-OverlappingRegs : goal.returns-in-OverlappingRegs
unfolding answer_numbers
returns-in-OverlappingRegs c = record { each = λ t. rw (c.in-OverlappingRegs.is, c.new-in-OverlappingRegs.ensures) refl }

pub returns-in-FunctionOfFloats : goal.returns-in-FunctionOfFloats
unfolding answer_numbers
returns-in-FunctionOfFloats c = record { each = λ t. rw (c.in-FunctionOfFloats.is, c.new-in-FunctionOfFloats.ensures) refl }

pub returns-in-OutputFull : goal.returns-in-OutputFull
unfolding answer_numbers
returns-in-OutputFull c = record { each = λ t. rw (c.in-OutputFull.is, c.new-in-OutputFull.ensures) refl }

pub returns-in-Flawed : goal.returns-in-Flawed
unfolding answer_numbers
returns-in-Flawed c = record { each = λ t. rw (c.in-Flawed.is, c.new-in-Flawed.ensures, c.number.ensures, c.place.ensures) refl }

pub returns-in-ShortTrace : goal.returns-in-ShortTrace
unfolding answer_numbers
returns-in-ShortTrace c = record { each = λ t. rw (c.in-ShortTrace.is, c.new-in-ShortTrace.ensures) refl }
