-- What the answers of the check say in document 01's numbers and places.
use Rattle.std.specs.Prelude.{ℕ, Result, Ok, Err}
use Rattle.model.specs.Check.{Flaw, fine, bad}
use Rattle.model.specs.Refusals as number
use Rattle.image.specs.declared.CheckRefusal.{CheckRefusal}
use Rattle.image.specs.declared.CheckRefusal.TheVariants as refusal

-- the flaw for which an image is refused
abbrev pub refusal_flaw : CheckRefusal → Flaw
refusal_flaw refusal.Contents = bad number.contents 0
refusal_flaw (refusal.Register p) = bad number.register p
refusal_flaw (refusal.GateEntry p) = bad number.gate_entry p
refusal_flaw (refusal.Form p) = bad number.form p
refusal_flaw (refusal.Argument p) = bad number.argument p
refusal_flaw (refusal.Expression p) = bad number.expression p
refusal_flaw (refusal.Sizes p) = bad number.sizes p
refusal_flaw (refusal.Upward p) = bad number.upward p

-- the flaw that an answer tells, or that there is none
abbrev pub answer_flaw : Result (Unit {0}) CheckRefusal → Flaw
answer_flaw (Ok done) = fine
answer_flaw (Err r) = refusal_flaw r

-- the number of a flaw, 0 where there is none
abbrev pub number_in : Flaw → ℕ
number_in fine = 0
number_in (bad n p) = n

-- the place of a flaw, 0 where there is none
abbrev pub place_in : Flaw → ℕ
place_in fine = 0
place_in (bad n p) = p
