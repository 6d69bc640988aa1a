-- Each kind's length is that of the record that the words begin with.
use native.Mathlib.Omega.{arith}
use mathlib.Core.Path.{◌≡◌, ◌∙◌, refl, ap}
use lib.ListN.{get_or}
use Rattle.record_kind.specs.Kind.{number_of}
use Rattle.record_reader.proofs.LengthLaws.{known_kind, unknown_kind, of_kind, of_none}
use Rattle.record_reader.proofs.length_of.Goals as goal
use Rattle.record_reader.proofs.length_of.Goals.{In_ok-kind}

number_is : (b : In_ok-kind) → get_or b.args.words.now 0 0 ≡ number_of b.in_ok-kind.kind
number_is b = known_kind _ b.try_from.ensures b.ok.ensures.value b.in_ok-kind.was

pub returns-in_err-kind : goal.returns-in_err-kind
returns-in_err-kind c = c.from_residual.ensures ∙ of_none _ (unknown_kind _ c.try_from.ensures c.ok.ensures.value c.in_err-kind.was)

pub returns-in-Head : goal.returns-in-Head
returns-in-Head c = of_kind c.args.words.now 0 _ (number_is (goal.at.returns-in-Head c).In_ok-kind ∙ ap number_of c.in-Head.is) refl (omega arith) (c.head_length.ensures ∙ rw (c.record_word.ensures, c.record_word-in-Head.ensures) refl)

pub returns-in-U : goal.returns-in-U
returns-in-U c = of_kind c.args.words.now 1 _ (number_is (goal.at.returns-in-U c).In_ok-kind ∙ ap number_of c.in-U.is) refl (omega arith) c.fixed_length.ensures

pub returns-in-CX : goal.returns-in-CX
returns-in-CX c = of_kind c.args.words.now 2 _ (number_is (goal.at.returns-in-CX c).In_ok-kind ∙ ap number_of c.in-CX.is) refl (omega arith) c.fixed_length-in-CX.ensures

pub returns-in-Opaque : goal.returns-in-Opaque
returns-in-Opaque c = of_kind c.args.words.now 3 _ (number_is (goal.at.returns-in-Opaque c).In_ok-kind ∙ ap number_of c.in-Opaque.is) refl (omega arith) (c.opaque_length.ensures ∙ rw (c.record_word-in-Opaque.ensures, c.record_word-in-Opaque-2.ensures) refl)

pub returns-in-Barrier : goal.returns-in-Barrier
returns-in-Barrier c = of_kind c.args.words.now 4 _ (number_is (goal.at.returns-in-Barrier c).In_ok-kind ∙ ap number_of c.in-Barrier.is) refl (omega arith) (c.barrier_length.ensures ∙ rw c.record_word-in-Barrier.ensures refl)

pub returns-in-Measure : goal.returns-in-Measure
returns-in-Measure c = of_kind c.args.words.now 5 _ (number_is (goal.at.returns-in-Measure c).In_ok-kind ∙ ap number_of c.in-Measure.is) refl (omega arith) c.fixed_length-in-Measure.ensures

pub returns-in-Reset : goal.returns-in-Reset
returns-in-Reset c = of_kind c.args.words.now 6 _ (number_is (goal.at.returns-in-Reset c).In_ok-kind ∙ ap number_of c.in-Reset.is) refl (omega arith) c.fixed_length-in-Reset.ensures

pub returns-in-ConditionalStart : goal.returns-in-ConditionalStart
returns-in-ConditionalStart c = of_kind c.args.words.now 7 _ (number_is (goal.at.returns-in-ConditionalStart c).In_ok-kind ∙ ap number_of c.in-ConditionalStart.is) refl (omega arith) c.fixed_length-in-ConditionalStart.ensures

pub returns-in-ConditionalEnd : goal.returns-in-ConditionalEnd
returns-in-ConditionalEnd c = of_kind c.args.words.now 8 _ (number_is (goal.at.returns-in-ConditionalEnd c).In_ok-kind ∙ ap number_of c.in-ConditionalEnd.is) refl (omega arith) c.fixed_length-in-ConditionalEnd.ensures
