-- A statement that opens no gate writes what the definition says of its kind.
use mathlib.Core.Path.{refl, sym, ap, ◌∙◌}
use borrow.Author.Rules.{rules}
use Rattle.image.specs.Entries.{as_statement}
use Rattle.gate.proofs.PrimitiveStatementLaws.{u_needs, u_wrote, cx_wrote, barrier_wrote, measure_wrote, reset_wrote}
use Rattle.gate.proofs.RunContextLaws.{with_angles}
use Rattle.gate.proofs.visit_primitive.Goals as goal

pub visit_u-requires : goal.visit_u-requires
visit_u-requires c = let e = sym c.requires.3 ∙ ap as_statement c.in-U.is in
    (with_angles c.requires.0 c.requires.1, u_needs c.args.scope.now.program.now.accepted c.args.site c.args.scope.now.in_scope c.requires.2 e, c.requires.0.in_output)

pub returns-in-U : goal.returns-in-U
returns-in-U c = let e = sym c.requires.3 ∙ ap as_statement c.in-U.is in
    record { steps = u_wrote c.args.scope.now.program.now.accepted c.args.site c.args.scope.now.in_scope c.requires.2 c.args.angles.now e c.visit_u.ensures.0; constants = c.visit_u.ensures.1; bodies_are = refl; trace_is = refl; lent = search rules }

pub returns-in-CX : goal.returns-in-CX
returns-in-CX c = let e = sym c.requires.3 ∙ ap as_statement c.in-CX.is in
    record { steps = cx_wrote c.args.scope.now.program.now.accepted c.args.site c.args.scope.now.in_scope c.requires.2 c.args.angles.now e c.visit_cx.ensures; constants = c.requires.0.constants; bodies_are = refl; trace_is = refl; lent = search rules }

pub returns-in-Barrier : goal.returns-in-Barrier
returns-in-Barrier c = let e = sym c.requires.3 ∙ ap as_statement c.in-Barrier.is in
    record { steps = barrier_wrote c.args.scope.now.program.now.accepted c.args.site c.args.scope.now.in_scope c.requires.2 c.args.angles.now e c.visit_barrier.ensures; constants = c.requires.0.constants; bodies_are = refl; trace_is = refl; lent = search rules }

pub returns-in-Measure : goal.returns-in-Measure
returns-in-Measure c = let e = sym c.requires.3 ∙ ap as_statement c.in-Measure.is in
    record { steps = measure_wrote c.args.scope.now.program.now.accepted c.args.site c.args.scope.now.in_scope c.requires.2 c.args.angles.now e c.visit_measure.ensures; constants = c.requires.0.constants; bodies_are = refl; trace_is = refl; lent = search rules }

pub returns-in-Reset : goal.returns-in-Reset
returns-in-Reset c = let e = sym c.requires.3 ∙ ap as_statement c.in-Reset.is in
    record { steps = reset_wrote c.args.scope.now.program.now.accepted c.args.site c.args.scope.now.in_scope c.requires.2 c.args.angles.now e c.visit_reset.ensures; constants = c.requires.0.constants; bodies_are = refl; trace_is = refl; lent = search rules }
