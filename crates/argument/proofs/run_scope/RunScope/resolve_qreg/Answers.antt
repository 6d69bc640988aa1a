-- A quantum argument is a part of a register in main, and a qubit of the frame in a body.
use native.Mathlib.Omega.{arith}
use mathlib.Core.Path.{◌∙◌}
use Rattle.argument.proofs.ArgumentLaws.{frame_qubit, quantum_argument_is, quantum_part_lem}
use Rattle.argument.proofs.run_scope.RunScope.resolve_qreg.Goals as goal

pub register_part-requires : goal.register_part-requires
register_part-requires c = let s = c.args.self.now in
    let p = s.program.now in
    quantum_part_lem p.accepted s.in_scope p.image.laid _ c.argument_at-at.ensures.is c.requires.listed c.requires.ok p.starts c.quantum_register_at.ensures.is c.if-self-eq0.true

pub returns-then-self-eq0 : goal.returns-then-self-eq0
returns-then-self-eq0 c = let s = c.args.self.now in
    let p = s.program.now in
    c.register_part.ensures ∙ quantum_argument_is p.accepted s.in_scope p.image.laid _ c.argument_at-at.ensures.is c.requires.listed c.requires.ok c.quantum_register_at.ensures.is c.if-self-eq0.true

pub offset_bounds-self-i : goal.offset_bounds-self-i
offset_bounds-self-i c = let s = c.args.self.now in
    let p = s.program.now in
    record { fits = omega (arith, (frame_qubit p.accepted s.in_scope p.image.laid _ c.argument_at-at.ensures.is c.requires.listed c.requires.ok c.word-i.ensures c.if-self-eq0.false).0) }

pub bounds-self-i : goal.bounds-self-i
bounds-self-i c = let s = c.args.self.now in
    let p = s.program.now in
    (frame_qubit p.accepted s.in_scope p.image.laid _ c.argument_at-at.ensures.is c.requires.listed c.requires.ok c.word-i.ensures c.if-self-eq0.false).0

pub returns : goal.returns
returns c = let s = c.args.self.now in
    let p = s.program.now in
    (frame_qubit p.accepted s.in_scope p.image.laid _ c.argument_at-at.ensures.is c.requires.listed c.requires.ok c.word-i.ensures c.if-self-eq0.false).1
