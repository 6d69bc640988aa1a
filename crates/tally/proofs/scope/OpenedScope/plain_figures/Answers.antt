-- What a statement that is no if adds follows from its kind.
use Rattle.std.proofs.Common.{max, ◌≡◌, arith}
use Rattle.model.specs.Tally.{plain_tally}
use Rattle.model.specs.Image.{argument_size, classical_argument_size}
use Rattle.model.proofs.Deep.{called_below}
use Rattle.tally.specs.Weights.{weight_of}
use Rattle.tally.proofs.CappedLaws.{rounds_of, u_is, cx_is, barrier_is, measure_is, reset_is}
use Rattle.tally.proofs.PlainTallyLaws.{u_rounds, cx_rounds, measure_rounds, reset_rounds, arguments_few}
use Rattle.tally.proofs.scope.OpenedScope.plain_figures.Goals as goal

pub call_figures-requires : goal.call_figures-requires
call_figures-requires c = let a = c.args.self.now in
    let image = a.image.now.words.now in
    let f = rw c.in-Gate.is at c.requires in
    let o = a.opened in
    (omega (arith, called_below image a.scope _ f.0 f.3, o.callable), omega (arith, f.2, arguments_few _ _ a.image.now.laid))

pub returns-in-U : goal.returns-in-U
returns-in-U c = let a = c.args.self.now in
    rw c.in-U.is (rounds_of _ (λ j. weight_of j 1 14) _ _ _ u_is (λ j. u_rounds a.image.now.words.now a.levels a.scope _ _ _ _ _ j c.argument_size.ensures) c.times.ensures)

pub returns-in-CX : goal.returns-in-CX
returns-in-CX c = let a = c.args.self.now in
    let k : c.max.result ≡ max (argument_size a.image.now.words.now a.scope c.in-CX.control) (argument_size a.image.now.words.now a.scope c.in-CX.target) = cc in
    rw c.in-CX.is (rounds_of _ (λ j. weight_of j 2 3) _ _ _ cx_is (λ j. cx_rounds a.image.now.words.now a.levels a.scope _ _ _ j k) c.times-in-CX.ensures)

pub returns-in-Gate : goal.returns-in-Gate
unfolding plain_tally
returns-in-Gate c = rw c.in-Gate.is c.call_figures.ensures

pub returns-in-Barrier : goal.returns-in-Barrier
unfolding plain_tally
returns-in-Barrier c = rw c.in-Barrier.is (barrier_is _ _ c.barrier_words.ensures)

pub returns-in-Measure : goal.returns-in-Measure
returns-in-Measure c = let a = c.args.self.now in
    let image = a.image.now.words.now in
    let k : c.max-in-Measure.result ≡ max (argument_size image a.scope c.in-Measure.from) (classical_argument_size image c.in-Measure.to) = cc in
    rw c.in-Measure.is (rounds_of _ (λ j. weight_of j 5 3) _ _ _ measure_is (λ j. measure_rounds image a.levels a.scope _ _ _ j k) c.times-in-Measure.ensures)

pub returns-in-Reset : goal.returns-in-Reset
returns-in-Reset c = let a = c.args.self.now in
    rw c.in-Reset.is (rounds_of _ (λ j. weight_of j 6 2) _ _ _ reset_is (λ j. reset_rounds a.image.now.words.now a.levels a.scope _ _ j c.argument_size-in-Reset.ensures) c.times-in-Reset.ensures)
