-- The new qubit is that at the first place of the old one.
use mathlib.Core.Path.{sym, ◌∙◌}
use Rattle.copy.proofs.RenamingLaws.{found_at, found_nowhere}
use Rattle.copy.proofs.renaming.Renaming.renamed.Goals as goal

pub returns-in-Some : goal.returns-in-Some
returns-in-Some c = let r = c.args.self in
    found_at r.old.now r.new.now c.args.q c.in-Some.i r.same_length (sym c.first_place.ensures ∙ c.in-Some.is)

pub returns-in-None : goal.returns-in-None
returns-in-None c = let r = c.args.self in
    found_nowhere r.old.now r.new.now c.args.q (sym c.first_place.ensures ∙ c.in-None.is)
