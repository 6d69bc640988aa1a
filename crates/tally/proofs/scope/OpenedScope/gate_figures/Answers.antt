-- A call is an opaque record, a record of a gate that is not opened, or its body's row.
use Rattle.std.proofs.Common.{ℕ, suc, ◌≡◌, ◌-◌, ◌*◌, ◌<◌, ◌≤◌, ap, arith}
use Rattle.model.specs.Image.{gates}
use Rattle.tally.specs.Weights.{entry_of, body}
use Rattle.tally.proofs.CappedLaws.{sum_of, rounds_of, entry_is}
use Rattle.tally.proofs.GateTallyLaws.{gate_opaque, gate_cut, gate_opened, few_parameters, few_arguments}
use Rattle.tally.proofs.PlainTallyLaws.{calls_below_few}
use Rattle.tally.proofs.scope.OpenedScope.gate_figures.Goals as goal
use Rattle.tally.proofs.scope.OpenedScope.gate_figures.Goals.{After-word}

-- a gate of an accepted image has few parameters and few arguments
module _ (w : After-word) where
  open_gates : w.args.g < gates w.args.self.now.image.now.words.now
  open_gates = let a = w.args.self.now in omega (arith, calls_below_few a.image.now.words.now a.scope a.opened.within)

  p_few : w.word-parameters.result ≤ 16
  p_few = few_parameters _ w.args.self.now.opened.accepted _ _ open_gates w.gate_at-at.ensures.is _ w.word-parameters.ensures

  q_few : w.word-arguments.result ≤ 16
  q_few = few_arguments _ w.args.self.now.opened.accepted _ _ open_gates w.gate_at-at.ensures.is _ w.word-arguments.ensures

pub overflow_mul-words : goal.overflow_mul-words
overflow_mul-words c = let w = (goal.at.overflow_mul-words c).After-word in omega (arith, p_few w)

pub overflow_add-words : goal.overflow_add-words
overflow_add-words c = let w = (goal.at.overflow_add-words c).After-word in omega (arith, p_few w)

pub overflow_add-words-then-word-eq0 : goal.overflow_add-words-then-word-eq0
overflow_add-words-then-word-eq0 c = let w = (goal.at.overflow_add-words-then-word-eq0 c).After-word in omega (arith, p_few w, q_few w)

pub opaque_record-requires : goal.opaque_record-requires
opaque_record-requires c = let w = (goal.at.opaque_record-requires c).After-word in omega (arith, p_few w, q_few w)

pub returns-then-word-eq0 : goal.returns-then-word-eq0
returns-then-word-eq0 c = let a = c.args in
    let image = a.self.now.image.now.words.now in
    rounds_of a.rounds _ _ _ _ c.opaque_record.ensures
    (λ j. ap (λ (m : ℕ). a.rounds * m) (gate_opaque image a.g c.gate_at-at.result c.word.result c.gate_at-at.ensures.is c.word.ensures a.self.now.levels _ _ j c.word-parameters.ensures c.word-arguments.ensures c.if-word-eq0.true))
    c.times.ensures

pub overflow_add-arguments : goal.overflow_add-arguments
overflow_add-arguments c = let w = (goal.at.overflow_add-arguments c).After-word in omega (arith, q_few w)

pub opaque_record-requires-then-self-eq0 : goal.opaque_record-requires-then-self-eq0
opaque_record-requires-then-self-eq0 c = let w = (goal.at.opaque_record-requires-then-self-eq0 c).After-word in omega (arith, q_few w)

pub returns-then-self-eq0 : goal.returns-then-self-eq0
returns-then-self-eq0 c = let a = c.args in
    let image = a.self.now.image.now.words.now in
    rounds_of a.rounds _ _ _ _ c.opaque_record-then-self-eq0.ensures
    (λ j. ap (λ (m : ℕ). a.rounds * m) (gate_cut image a.g c.gate_at-at.result c.word.result c.gate_at-at.ensures.is c.word.ensures a.self.now.levels _ j c.word-arguments.ensures c.if-word-eq0.false c.if-self-eq0.true))
    c.times-then-self-eq0.ensures

pub returns : goal.returns
returns c = let a = c.args in
    let image = a.self.now.image.now.words.now in
    let n = a.self.now.levels in
    let o = a.self.now.opened in
    let e : n ≡ suc (n - 1) = omega arith in
    rounds_of a.rounds _ _ _ _ (sum_of entry_of (body image (n - 1) a.g) _ _ _ entry_is (o.opened.holds (n - 1) a.g e c.requires) c.plus.ensures)
    (λ j. ap (λ (m : ℕ). a.rounds * m) (gate_opened image a.g c.gate_at-at.result c.word.result c.gate_at-at.ensures.is c.word.ensures (n - 1) n j c.if-word-eq0.false e))
    c.times-2.ensures
