-- The statements of main are the first ones, those of a body stand in its gate's entry.
use native.Mathlib.Omega.{arith}
use Rattle.image.proofs.StatementsOfLaws.{holds_main, body_listed, holds_body}
use Rattle.image.proofs.Image.statements_of.Goals as goal

pub returns-then-scope-eq0 : goal.returns-then-scope-eq0
returns-then-scope-eq0 c = holds_main c.args.self.now.words.now c.args.self.now.layout c.args.scope c.args.self.now.laid c.if-scope-eq0.true

pub overflow_add-result : goal.overflow_add-result
overflow_add-result c = let laid = c.args.self.now.laid in
    let listed = body_listed _ _ laid c.requires.0 c.args.scope _ _ _ c.requires.1 c.if-scope-eq0.false c.gate_at-at.ensures.is c.word-first.ensures c.word.ensures in
    record { fits = omega (arith, listed, laid.whole, laid.short) }

pub returns : goal.returns
returns c = holds_body _ _ c.args.self.now.laid c.requires.0 c.args.scope _ _ _ c.requires.1 c.if-scope-eq0.false c.gate_at-at.ensures.is c.word-first.ensures c.word.ensures
