-- The head is left out where main is empty.
use Rattle.std.proofs.Common.{◌+◌, ◌*◌, ◌≡◌, arith}
use borrow.Author.Tests.{eq-eqb, ne_eqb}
use Rattle.model.specs.Image.{qubits, bits, main_statements}
use Rattle.model.proofs.Accepted.{accepts}
use Rattle.tally.proofs.CappedLaws.{none_is, head_is}
use Rattle.tally.proofs.head_figures.Goals as goal

pub returns-then-accepted-eq0 : goal.returns-then-accepted-eq0
returns-then-accepted-eq0 c = let i = c.args.accepted.now.image in
    let e : main_statements i.words.now ≡ 0 = omega (arith, i.laid.main_statements_is) in
    rw (eq-eqb (main_statements i.words.now) 0 e) none_is

pub returns : goal.returns
returns c = let i = c.args.accepted.now.image in
    let w = i.words.now in
    let a = accepts w c.args.accepted.now.accepted in
    let e : ¬ (main_statements w ≡ 0) = λ z. absurd (omega (arith, i.laid.main_statements_is)) in
    rw (ne_eqb (main_statements w) 0 e) (head_is _ (3 + 2 * (qubits w + bits w)) (omega (arith, a.few_qubits, a.few_bits)))
