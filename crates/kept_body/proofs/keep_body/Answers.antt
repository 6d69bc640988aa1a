-- A body that may be copied is put into the slot of its gate, and the other slots stay.
use mathlib.Core.Path.{◌∙◌}
use Rattle.kept_body.proofs.SlotLaws.{told}
use Rattle.kept_body.proofs.KeptBodiesLaws.{bodies_put, body_put}
use Rattle.kept_body.proofs.BodyCopiedLaws.{lent_slot_lem, slot_whole}
use Rattle.kept_body.proofs.keep_body.Goals as goal

pub returns : goal.returns
returns c = let e = lent_slot_lem c.args.kept_bodies.now c.args.call.gate in
    let put = c.put_body in
    let may = c.may_be_copied.ensures in
    let yes = c.if-not-may_be_copied.false in
    let whole = put.auto.slot ∙ slot_whole c.requires.0 e in
    (body_put may yes put.new.slot whole c.requires.0.room put.ensures, λ image out out' ran b. bodies_put ran c.args.kept_bodies.now put.new.slot whole c.requires.0.room b put.ensures (told may yes))
