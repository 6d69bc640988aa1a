-- The table is enough for the values of all expressions, and nothing is kept at first.
use Rattle.expression.proofs.KeptValuesLaws.{no_constants}
use Rattle.linearize.proofs.visit_with_kept_values.Goals as goal

pub visit_keeping_bodies-requires : goal.visit_keeping_bodies-requires
visit_keeping_bodies-requires g c = (c.requires.0, no_constants c.args.program.now.image.words.now g.row.N c.requires.1)
