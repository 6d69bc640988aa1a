-- The words that the code makes of an answer are those of the definition.
use Prim.Native.Nat.{ℕ}
use mathlib.Core.Path.{◌≡◌, refl, sym, ap, ap₂, subst, ◌∙◌}
use mathlib.Core.List.{List, [], ◌∷◌}
use lib.ListN.{take}
use Rattle.model.specs.Check.{Flaw, fine, bad}
use Rattle.model.specs.Run as Model
use Rattle.model.specs.Claims.{Claims}
use Rattle.image.specs.declared.CheckRefusal.{CheckRefusal}
use Rattle.image.specs.declared.CheckRefusal.TheVariants as refusal
use Rattle.image.specs.Answer.{number_in, place_in}
use Rattle.record_writer.specs.declared.Position.{Position}
use Rattle.record_writer.specs.declared.LinearizeErrorKind.{LinearizeErrorKind}
use Rattle.record_writer.specs.declared.LinearizeErrorKind.TheVariants as kind
use Rattle.std.specs.Prelude.{Ok, Err}
use Rattle.record_writer.specs.Promise.{RunResult, refusal_answer, run_answer_of, position_of}
use Rattle.linearize.specs.Linearizes.{answer_outcome, Linearizes}
use Rattle.unit.specs.declared.Numbers.{Numbers}
use Rattle.unit.specs.AnswerNumbers.{RunNumbers}
use Rattle.unit_words.specs.AnswerWords.{check_words, run_words, answer_in, outcome_in, RunExport}

pub check_words_lem : (v : Flaw) → number_in v ∷ place_in v ∷ [] ≡ check_words v
check_words_lem fine = refl
check_words_lem (bad n p) = refl

-- an answer is the one that has its numbers
check_back : (c : CheckRefusal) (calls : List ℕ) → answer_in (Model.answer_numbers (refusal_answer (kind.Flawed c) calls)) calls ≡ refusal_answer (kind.Flawed c) calls
unfolding Model.answer_numbers
check_back refusal.Contents calls = refl
check_back (refusal.Register p) calls = refl
check_back (refusal.GateEntry p) calls = refl
check_back (refusal.Form p) calls = refl
check_back (refusal.Argument p) calls = refl
check_back (refusal.Expression p) calls = refl
check_back (refusal.Sizes p) calls = refl
check_back (refusal.Upward p) calls = refl

refusal_back : (k : LinearizeErrorKind) (calls : List ℕ) → answer_in (Model.answer_numbers (refusal_answer k calls)) calls ≡ refusal_answer k calls
unfolding Model.answer_numbers
refusal_back (kind.DivideByZero p) calls = refl
refusal_back (kind.ApproximateFail p f) calls = refl
refusal_back (kind.NumericalOverflow p) calls = refl
refusal_back (kind.OverlappingRegs p q) calls = refl
refusal_back (kind.FunctionOfFloats p) calls = refl
refusal_back kind.OutputFull calls = refl
refusal_back (kind.Flawed c) calls = check_back c calls
refusal_back kind.ShortTrace calls = refl

answer_back : (r : RunResult) (calls : List ℕ) → answer_in (Model.answer_numbers (run_answer_of r calls)) calls ≡ run_answer_of r calls
unfolding Model.answer_numbers
answer_back (Ok p) calls = refl
answer_back (Err e) calls = refusal_back e.kind calls

abbrev six_words : Model.Numbers → Position → List ℕ
six_words m p = m.number ∷ m.place ∷ m.second ∷ p.records ∷ p.words ∷ p.trace ∷ []

-- so the six words, the output and the trace hold the whole outcome
outcome_back : (r : RunResult) (out trace : List ℕ) {m : Model.Numbers} {at : Position} → m ≡ Model.answer_numbers (run_answer_of r (take (position_of r).trace trace)) → at ≡ position_of r
    → outcome_in (six_words m at) out trace ≡ answer_outcome r out trace
outcome_back r out trace {m} {at} numbers e =
    ap₂ (λ (m : Model.Numbers) (p : Position). outcome_in (six_words m p) out trace) numbers e
    ∙ ap (λ (a : Model.Answer). record {
      answer = a;
      records = (position_of r).records;
      output_words = (position_of r).words;
      trace_words = (position_of r).trace;
      output_left = out;
      trace_left = trace;
    })
    (answer_back r (take (position_of r).trace trace))

pub exported : {image : List ℕ} {depth : ℕ} {out trace out' trace' : List ℕ} {r : RunResult} {n : Numbers} {at : Position} → Linearizes image depth out trace r out' trace' → RunNumbers r n → at ≡ position_of r
    → RunExport image depth out trace out' trace' (n.number ∷ n.place ∷ n.second ∷ at.records ∷ at.words ∷ at.trace ∷ [])
exported {image} {depth} {out} {trace} {out'} {trace'} {r} {n} {at} w t e =
    let numbers = t.each (take (position_of r).trace trace') in
    let back = outcome_back r out' trace' numbers e in
    record {
      answers = ap₂ six_words numbers e ∙ ap run_words w.outcome;
      output = ap (λ (o : Model.Outcome). o.output_left) w.outcome;
      traces = ap (λ (o : Model.Outcome). o.trace_left) w.outcome;
      outcome = back ∙ w.outcome;
      claims = subst (Claims image depth out trace) (sym back) w.claims;
    }
