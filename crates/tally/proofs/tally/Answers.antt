-- An accepted image is tallied; a refused one has the check's refusal.
use Rattle.std.proofs.Common.{◌≡◌, refl, ◌∙◌, Result, Ok, Err, IsErrAnd}
use Rattle.image.specs.declared.CheckRefusal.{CheckRefusal}
use Rattle.image.specs.Answer.{refusal_flaw}
use Rattle.tally.specs.Weights.{refused_as, tally_answer_of}
use Rattle.tally.specs.declared.figures.Figures.{Figures}
use Rattle.tally.specs.declared.TallyError.{TallyError}
use Rattle.tally.specs.declared.TallyError.TheVariants.{Refused}
use Rattle.tally.proofs.FiguresLaws.{tally_refused}
use Rattle.tally.proofs.tally.Goals as goal

refused_answer : (r : Result Figures TallyError) (f : CheckRefusal) → IsErrAnd r (λ e. e ≡ Refused f) → tally_answer_of r ≡ refused_as (refusal_flaw f)
refused_answer (Ok x) f h = absurd h
refused_answer (Err e) f h = rw h refl

pub returns-in_err-accepted : goal.returns-in_err-accepted
returns-in_err-accepted c =
    refused_answer c.from_residual.result c.in_err-accepted.field-0.0 c.from_residual.ensures.1
    ∙ tally_refused c.args.words.now c.args.depth c.in_err-accepted.field-0.0 c.in_err-accepted.ensures
