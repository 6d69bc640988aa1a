-- The table is enough for the slots of the image, and nothing is kept at first.
use borrow.Author.Rules.{rules}
use Rattle.kept_body.proofs.KeptBodiesLaws.{no_bodies}
use Rattle.gate.proofs.RunningLaws.{ran_on}
use Rattle.linearize.proofs.visit_with_kept_bodies.Goals as goal

pub visit_program-requires : goal.visit_program-requires
visit_program-requires g c = let program = c.args.program.now in
    (c.requires.0, c.requires.1, no_bodies program.image.words.now _ g.row.N _ c.args.slot_width c.requires.2 (rw program.image.laid.gates_is at c.requires.3))

pub returns : goal.returns
returns g c = ran_on (search rules) (search rules) c.visit_program.ensures.steps
