-- One round of each statement, from the qubits and bits that the code found.
use Prim.Native.Nat.{ℕ, ◌+◌, ◌<◌}
use mathlib.Core.Path.{◌≡◌, refl, ap, ap₂, subst}
use borrow.Author.Tests.{eq-eqb, ne_eqb}
use mathlib.Core.List.{List, [], ◌∷◌}
use lib.ListN.{length}
use Rattle.value.specs.declared.Value.{Value}
use Rattle.model.specs.Records.{Record, encode, kind as kind_of, fields}
use Rattle.model.specs.Steps.{Step, write, Frame, in_rounds, qubit_in, bit_in, write_reset, write_measure, write_cx, write_u}
use Rattle.model.specs.Run.{play}
use Rattle.model.proofs.PlayLaws.{plays_stop}
use Rattle.record_writer.specs.declared.Position.{Position}
use Rattle.std.specs.Prelude.{Err}
use Rattle.record_writer.specs.Promise.{RunResult, output_full_at, InOutput, WroteSteps}
use Rattle.record_writer.proofs.WroteStepsLaws.{record_refused}
use Rattle.record_writer.proofs.AngleWordsLaws.{u_long}
use Rattle.argument.specs.declared.Argument.{Argument}
use Rattle.argument.specs.Frames.{scope_frame, quantum_argument, number_in_round, ScopeContext}
use Rattle.argument.proofs.ArgumentLaws.{few_rounds, resolved_below, one_round_range}
use Rattle.model.specs.Accepted.{Accepted}
use Rattle.model.specs.Check.{argument_ok}
use lib.Dec.{T}
use native.Mathlib.Omega.{arith}
use Rattle.statement.specs.Statements.{apart_cx, overlap_at_cx, u_round, FewQubits}

module _ (image : List ℕ) (scope : ℕ) (angles : List Value) (qubits : List ℕ) where
  abbrev frame : Frame
  frame = scope_frame image scope angles qubits

  pub reset_round : (a i : ℕ) {q : ℕ} → q ≡ qubit_in image frame i a → ◌≡◌ {A = List Step} (write [] (Record.Reset q) ∷ []) (write_reset image frame a i)
  unfolding write_reset
  reset_round a i e = ap (λ (q : ℕ). write [] (Record.Reset q) ∷ []) e

  pub measure_round : (a c i : ℕ) {q b : ℕ} → q ≡ qubit_in image frame i a → b ≡ bit_in image i c → ◌≡◌ {A = List Step} (write [] (Record.Measure q b) ∷ []) (write_measure image frame a c i)
  unfolding write_measure
  measure_round a c i e f = ap₂ (λ (q b : ℕ). write [] (Record.Measure q b) ∷ []) e f

  pub cx_round : (a b i : ℕ) {p q : ℕ} → p ≡ qubit_in image frame i a → q ≡ qubit_in image frame i b → apart_cx image a b p q ≡ write_cx image frame a b i
  unfolding write_cx apart_cx
  cx_round a b i e f = ap₂ (apart_cx image a b) e f

  -- a U of each qubit of an argument, as the definition has it
  pub u_rounds : {x : Argument} (theta phi lambda : Value) (a : ℕ) → x ≡ quantum_argument image scope qubits a → {n : ℕ} → x.size ≡ n
      → in_rounds x.size (u_round x theta phi lambda) ≡ in_rounds n (write_u image frame a (theta ∷ phi ∷ lambda ∷ []))
  unfolding write_u u_round qubit_in
  u_rounds theta phi lambda a e f = rw (← f, e) refl

pub u_round_lem : (x : Argument) (theta phi lambda : Value) (i : ℕ) {q : ℕ} → q ≡ number_in_round x i → ◌≡◌ {A = List Step} (write [] (Record.U theta phi lambda q) ∷ []) (u_round x theta phi lambda i)
unfolding u_round
u_round_lem x theta phi lambda i e = ap (λ (q : ℕ). write [] (Record.U theta phi lambda q) ∷ []) e

pub u_full : (x : Argument) (theta phi lambda : Value) (i : ℕ) {out : List ℕ} {at : Position} → InOutput out at → length out < at.words + 14 → WroteSteps (u_round x theta phi lambda i) out at (Err (output_full_at at)) out
unfolding u_round
u_full x theta phi lambda i {out} {at} o h = record_refused (Record.U theta phi lambda (number_in_round x i)) o (subst (λ (n : ℕ). length out < at.words + n) (u_long theta phi lambda (number_in_round x i)) h)

-- the qubits of an accepted argument are few
pub few_qubits : {image : List ℕ} → Accepted image → {scope : ℕ} {qubits : List ℕ} → ScopeContext image scope qubits → (a : ℕ) {x : Argument} → T (argument_ok image scope a) → x ≡ quantum_argument image scope qubits a → FewQubits x
few_qubits acc s a k e = (few_rounds acc s a k e, λ i h. omega (arith, resolved_below acc s a i k (one_round_range acc s a i e h), ap (λ (x : Argument). number_in_round x i) e))

-- the three ends of a round of a CX
module _ (image : List ℕ) (a b : ℕ) {out : List ℕ} {p q : ℕ} {at : Position} where
  pub cx_overlaps : InOutput out at → p ≡ q → WroteSteps (apart_cx image a b p q) out at (Err (overlap_at_cx image a b at)) out
  unfolding apart_cx play
  cx_overlaps o d = rw (eq-eqb p q d) (record { plays = plays_stop _ o.inside refl; level = refl })

  pub cx_apart : {p' q' : ℕ} {r : RunResult} {out' : List ℕ} → p' ≡ p → q' ≡ q → ¬ (p' ≡ q') → WroteSteps (write [] (Record.CX p' q') ∷ []) out at r out' → WroteSteps (apart_cx image a b p q) out at r out'
  unfolding apart_cx
  cx_apart e f n w = rw (← e, ← f, ne_eqb _ _ n) w

  pub cx_full : {p' q' : ℕ} → p' ≡ p → q' ≡ q → ¬ (p' ≡ q') → InOutput out at → length out < at.words + 3 → WroteSteps (apart_cx image a b p q) out at (Err (output_full_at at)) out
  unfolding encode kind_of fields
  cx_full {p'} {q'} e f n o h = cx_apart e f n (record_refused (Record.CX p' q') o h)
