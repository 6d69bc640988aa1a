-- What writes a record, and what refuses one, in the words of the steps that were played.
use Prim.Native.Nat.{ℕ, ◌+◌, ◌-◌, ◌≤◌, ◌<◌}
use native.Mathlib.Omega.{arith}
use mathlib.Core.Path.{◌≡◌, refl, sym, ap, subst, ◌∙◌}
use mathlib.Core.List.{List, [], ◌∷◌}
use borrow.Author.Tests.{lt-leb}
use lib.ListN.{length}
use lib.Seq.{sets}
use Rattle.model.specs.Records.{Record, encode}
use Rattle.model.specs.Steps.{Step, write, refuse, Refusal}
use Rattle.model.specs.Run.{Answer, done, refused, full, play}
use Rattle.model.specs.Playing.{Plays}
use Rattle.model.proofs.PlayLaws.{plays_write, plays_stop}
use Rattle.record_writer.specs.Promise.{RunResult, after_record, output_full_at, InOutput, WroteSteps, AppendedWords, state_at, refusal_answer}
use Rattle.record_writer.specs.declared.Position.{Position}
use Rattle.record_writer.specs.declared.LinearizeErrorKind.{LinearizeErrorKind}
use Rattle.record_writer.specs.declared.LinearizeErrorKind.TheVariants as kind
use Rattle.record_writer.specs.declared.LinearizeError.{LinearizeError}
use Rattle.std.specs.Prelude.{Result, Ok, Err, IsErrAnd}

-- a record is written
pub record_written : (x : Record) (n : ℕ) {out out' : List ℕ} {at to : Position} → to ≡ after_record at n → n ≡ length (encode x) → at.words + n ≤ length out → out' ≡ sets out at.words (encode x)
    → WroteSteps (write [] x ∷ []) out at (Ok to) out'
record_written x n {at = at} d e h o =
    record { plays = plays_write [] x (omega arith) o (ap (λ p. p.words) d ∙ ap (λ (m : ℕ). at.words + m) e) (ap (λ p. p.records) d); level = ap (λ p. p.trace) d }

-- a record is too long for the words left
pub record_refused : (x : Record) {out : List ℕ} {at : Position} → InOutput out at → length out < at.words + length (encode x)
    → WroteSteps (write [] x ∷ []) out at (Err (output_full_at at)) out
unfolding play
record_refused x {out} {at} k h =
    record {
      plays = plays_stop (write [] x ∷ []) {p = state_at out at} {a = full []} k.inside (rw (lt-leb (length (encode x)) (length out - at.words) (omega arith)) refl);
      level = refl;
    }

-- words are appended, whatever record they are, or there is no room for them
pub appended : {ws out out' : List ℕ} {at to : Position} (n : ℕ) → to ≡ after_record at n → n ≡ length ws → at.words + n ≤ length out → out' ≡ sets out at.words ws → AppendedWords ws out at (Ok to) out'
appended n p e h o = record { wrote = λ x d. record_written x n p (e ∙ ap length (sym d)) h (o ∙ rw (sym d) refl) }

pub not_appended : {ws out : List ℕ} {at : Position} → InOutput out at → length out < at.words + length ws → AppendedWords ws out at (Err (output_full_at at)) out
not_appended k h = record { wrote = λ x e. record_refused x k (omega (arith, ap length e)) }

-- where steps were played to their end, the position is still in the output
pub wrote_open : {ss : List Step} {out out' : List ℕ} {at p : Position} → InOutput out at → WroteSteps ss out at (Ok p) out' → InOutput out' p
wrote_open o w = record { inside = w.plays.fits; fewer = omega (arith, o.fewer, w.plays.fewer) }

-- an answer that equals another one
pub wrote_answer : {ss : List Step} {out out' : List ℕ} {at : Position} {r s : RunResult} → r ≡ s → WroteSteps ss out at s out' → WroteSteps ss out at r out'
wrote_answer {ss} {out} {out'} {at} e w = subst (λ (z : RunResult). WroteSteps ss out at z out') (sym e) w

-- the refusal that a `?` hands on is the one that it was given
pub handed_on : {A : Type 0} (r : Result A LinearizeError) {e : LinearizeError} → IsErrAnd r (λ d. d ≡ e) → r ≡ Err e
handed_on (Ok x) h = absurd h
handed_on (Err d) h = ap Err h

-- a refusal before which nothing is written
pub refuses : (x : Refusal) (e : LinearizeError) {out : List ℕ} {at : Position} → e.at ≡ at → ((t : List ℕ) → refusal_answer e.kind t ≡ refused t x) → InOutput out at → WroteSteps (refuse [] x ∷ []) out at (Err e) out
unfolding play
refuses x e {out} {at} p q o =
    record {
      plays = subst (λ (z : Position). Plays (refuse [] x ∷ []) (state_at out at) (state_at out z) (refusal_answer e.kind [])) (sym p)
          (subst (λ (z : Answer). Plays (refuse [] x ∷ []) (state_at out at) (state_at out at) z) (sym (q [])) (plays_stop (refuse [] x ∷ []) o.inside refl));
      level = ap (λ (z : Position). z.trace) p;
    }

-- no refusal is an end of the whole
pub not_done : (k : LinearizeErrorKind) (t : List ℕ) → ¬ (refusal_answer k t ≡ done)
not_done (kind.DivideByZero p) t e = absurd (let z : ◌≡◌ {A = ℕ} 0 1 = cc in omega arith)
not_done (kind.ApproximateFail p f) t e = absurd (let z : ◌≡◌ {A = ℕ} 0 1 = cc in omega arith)
not_done (kind.NumericalOverflow p) t e = absurd (let z : ◌≡◌ {A = ℕ} 0 1 = cc in omega arith)
not_done (kind.OverlappingRegs p q) t e = absurd (let z : ◌≡◌ {A = ℕ} 0 1 = cc in omega arith)
not_done (kind.FunctionOfFloats p) t e = absurd (let z : ◌≡◌ {A = ℕ} 0 1 = cc in omega arith)
not_done kind.OutputFull t e = absurd (let z : ◌≡◌ {A = ℕ} 0 1 = cc in omega arith)
not_done (kind.Flawed c) t e = absurd (let z : ◌≡◌ {A = ℕ} 0 1 = cc in omega arith)
not_done kind.ShortTrace t e = absurd (let z : ◌≡◌ {A = ℕ} 0 1 = cc in omega arith)

-- the same steps, otherwise written
pub wrote_steps : {ss ss' : List Step} {out out' : List ℕ} {at : Position} {r : RunResult} → ss ≡ ss' → WroteSteps ss out at r out' → WroteSteps ss' out at r out'
wrote_steps e w = rw (← e) w

-- no step is written
pub wrote_nothing : {out : List ℕ} {at : Position} → InOutput out at → WroteSteps [] out at (Ok at) out
unfolding play
wrote_nothing o = record { plays = plays_stop [] o.inside refl; level = refl }
