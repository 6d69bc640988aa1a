-- The image is handed on exactly if the check finds nothing; the refusal is the check's.
use Rattle.std.proofs.Common.{◌≡◌, Err, rules, refl, sym, ◌∙◌}
use Rattle.image_check.proofs.CheckLaws.{check_contents, check_entries}
use Rattle.image_check.proofs.accepted_image.Goals as goal

pub returns-in_default : goal.returns-in_default
returns-in_default c = check_contents c.args.words.now c.in_default.ensures

pub returns-in_err-first_bad_entry : goal.returns-in_err-first_bad_entry
returns-in_err-first_bad_entry c = let same : c.from_residual.result ≡ Err c.in_err-first_bad_entry.field-0.0 = search rules in
    rw same (c.in_err-first_bad_entry.ensures ∙ check_entries c.in-Some.image.words.now c.args.words.now c.in-Some.ensures)

pub invariant_of-result : goal.invariant_of-result
invariant_of-result c = record { accepted = sym (c.in_ok-first_bad_entry.ensures ∙ check_entries c.in-Some.image.words.now c.in-Some.image.words.now (rw c.in-Some.ensures.1 c.in-Some.ensures.0, refl)) }
