-- From the steps that were run, or the refusal before the first record, to the whole promise of a run.
use Prim.Native.Nat.{ℕ, ◌+◌, ◌≤◌, ◌<◌}
use native.Mathlib.Nat.{zero-add}
use native.Mathlib.Omega.{arith}
use mathlib.Core.Path.{◌≡◌, refl, sym, ap, ap₂, subst, ◌∙◌}
use mathlib.Core.List.{List, ◌++◌, flat_map}
use borrow.Author.Tests.{le-ltb, lt-ltb}
use lib.ListN.{length, take, drop}
use lib.Seq.{sets-eq, take-append_seam}
use Rattle.model.specs.Check.{Flaw, fine, bad, check}
use Rattle.model.specs.Steps.{steps}
use Rattle.model.specs.Run.{Answer, trace_of, Played, flawed, accepted, play, runs, output, laid_over, outcome_of, linearize}
use Rattle.model.specs.Claims.{Claims}
use Rattle.model.proofs.PlayLaws.{plays_all}
use Rattle.model.proofs.Outcome.{claims}
use Rattle.image.specs.declared.CheckRefusal.{CheckRefusal}
use Rattle.image.specs.declared.CheckRefusal.TheVariants as refusal
use Rattle.image.specs.Answer.{refusal_flaw, number_in, place_in}
use Rattle.record_writer.specs.declared.Position.{Position}
use Rattle.record_writer.specs.declared.LinearizeErrorKind.{LinearizeErrorKind}
use Rattle.record_writer.specs.declared.LinearizeErrorKind.TheVariants as kind
use Rattle.std.specs.Prelude.{Ok, Err}
use Rattle.record_writer.specs.Promise.{RunResult, refusal_answer, run_answer_of, position_of}
use Rattle.gate.specs.RanSteps.{RanSteps}
use Rattle.linearize.specs.Linearizes as promise
use Rattle.linearize.specs.Linearizes.{refused_with, Linearizes}

-- the claims of every run, said of the slices as they are left
module _ (image : List ℕ) (depth : ℕ) (out trace : List ℕ) {r : RunResult} {out' trace' : List ℕ} where
  pub linearizes : promise.answer_outcome r out' trace' ≡ linearize image depth out trace → Linearizes image depth out trace r out' trace'
  linearizes e = record { outcome = e; claims = subst (Claims image depth out trace) (sym e) (claims image depth out trace) }

-- a refusal's trace is the words that stand in front of the trace
refusal_trace : (k : LinearizeErrorKind) (calls : List ℕ) → refusal_answer k (trace_of (refusal_answer k calls)) ≡ refusal_answer k calls
unfolding trace_of
refusal_trace (kind.DivideByZero p) c = refl
refusal_trace (kind.ApproximateFail p f) c = refl
refusal_trace (kind.NumericalOverflow p) c = refl
refusal_trace (kind.OverlappingRegs p q) c = refl
refusal_trace (kind.FunctionOfFloats p) c = refl
refusal_trace kind.OutputFull c = refl
refusal_trace (kind.Flawed v) c = refl
refusal_trace kind.ShortTrace c = refl

answer_trace : (r : RunResult) (calls : List ℕ) → run_answer_of r (trace_of (run_answer_of r calls)) ≡ run_answer_of r calls
unfolding trace_of
answer_trace (Ok p) c = refl
answer_trace (Err e) c = refusal_trace e.kind c

-- the flaw for which an image is refused is one
is_bad : (c : CheckRefusal) → refusal_flaw c ≡ bad (number_in (refusal_flaw c)) (place_in (refusal_flaw c))
is_bad refusal.Contents = refl
is_bad (refusal.Register p) = refl
is_bad (refusal.GateEntry p) = refl
is_bad (refusal.Form p) = refl
is_bad (refusal.Argument p) = refl
is_bad (refusal.Expression p) = refl
is_bad (refusal.Sizes p) = refl
is_bad (refusal.Upward p) = refl

module _ (image : List ℕ) (depth : ℕ) (out trace : List ℕ) where
  -- an accepted image plays its steps
  plays_steps : check image ≡ fine → 256 ≤ length trace → runs image depth (length out) (length trace) ≡ play (length out) (steps image depth)
  unfolding runs accepted
  plays_steps e h = rw (le-ltb (length trace) 256 h, e) refl

  pub accepted_run : {r : RunResult} {out' trace' : List ℕ} {at : Position} → check image ≡ fine → 256 ≤ length trace → at ≡ record { records = 0; words = 0; trace = 0 } → RanSteps (steps image depth) out at trace r out' trace'
      → Linearizes image depth out trace r out' trace'
  unfolding linearize
  accepted_run {r} {out'} {trace'} {at} e h z w =
      let v : RanSteps (steps image depth) out (record { records = 0; words = 0; trace = 0 }) trace r out' trace' = rw z at w in
      let p = plays_all (steps image depth) v.plays in
      let x = runs image depth (length out) (length trace) in
      let same = plays_steps e h in
      let answers : run_answer_of r v.calls ≡ x.answer = p.0 ∙ ap (λ (y : Played). y.answer) (sym same) in
      let t : List ℕ = trace_of (run_answer_of r v.calls) in
      let short : 0 + length t ≤ length trace = omega (arith, (claims image depth out trace).traces, ap (λ (a : Answer). length (trace_of a)) answers) in
      let left : trace' ≡ laid_over t trace = v.tracing ∙ sets-eq t trace 0 short ∙ ap (λ (n : ℕ). t ++ drop n trace) (zero-add (length t)) in
      let count : (position_of r).trace ≡ length t = v.level ∙ zero-add (length t) in
      let front : take (position_of r).trace trace' ≡ t = ap₂ take count left ∙ take-append_seam t (drop (length t) trace) in
      let answer : run_answer_of r (take (position_of r).trace trace') ≡ x.answer = ap (run_answer_of r) front ∙ answer_trace r v.calls ∙ answers in
      linearizes image depth out trace λ i. record {
        answer = answer i;
        records = (p.1 ∙ ap (λ (y : Played). length y.written) (sym same)) i;
        output_words = (p.2 ∙ ap (λ (y : Played). length (output y)) (sym same)) i;
        trace_words = (count ∙ ap (λ (a : Answer). length (trace_of a)) answers) i;
        output_left = (p.3 ∙ ap (λ (y : Played). laid_over (output y) out) (sym same)) i;
        trace_left = (left ∙ ap (λ (a : Answer). laid_over (trace_of a) trace) answers) i;
      }

  -- a refusal before the first record
  pub short_trace_lem : length trace < 256 → Linearizes image depth out trace (Err (refused_with kind.ShortTrace)) out trace
  unfolding linearize runs output flat_map trace_of
  short_trace_lem h = linearizes image depth out trace (sym (rw (lt-ltb (length trace) 256 h) refl))

  pub not_accepted : (c : CheckRefusal) → 256 ≤ length trace → refusal_flaw c ≡ check image → Linearizes image depth out trace (Err (refused_with (kind.Flawed c))) out trace
  unfolding linearize runs accepted output flat_map trace_of
  not_accepted c h e = linearizes image depth out trace (sym (rw (le-ltb (length trace) 256 h, ← e) (go (refusal_flaw c) (is_bad c))))
    where
      go : (v : Flaw) → v ≡ bad (number_in v) (place_in v) → outcome_of (accepted v (play (length out) (steps image depth))) out trace ≡ record { answer = flawed (number_in v) (place_in v); records = 0; output_words = 0; trace_words = 0; output_left = out; trace_left = trace }
      go fine n = absurd (let z : ◌≡◌ {A = ℕ} 0 1 = cc in omega arith)
      go (bad k p) n = refl
