-- What is known where the main statements are run, and their steps: conditionals, the statements in turn, and the head before them.
use Prim.Native.Nat.{ℕ, ◌+◌, ◌-◌, ◌≤◌, ◌<◌, zero-le}
use native.Mathlib.Nat.{zero-add}
use native.Mathlib.Omega.{arith}
use mathlib.Core.Path.{◌≡◌, refl, sym, ap, subst, ◌∙◌}
use mathlib.Core.List.{List, [], ◌∷◌, ◌++◌}
use borrow.Author.Tests.{eq-eqb, ne_eqb}
use lib.ListN.{length, get_or, drop}
use lib.Seq.{get_or-drop}
use Rattle.value.specs.declared.Value.{Value}
use Rattle.model.specs.Image as model
use Rattle.model.specs.Image.{word, quantum_registers, statement, main_statements, classical_size, first_bit, variables, scope_statements, classical_register_at}
use Rattle.model.specs.Records.{Record}
use Rattle.model.specs.Steps.{Step, write, in_rounds, visit_plain, visit_conditional, visit_statement, visit_body, opening, main_frame, head_record, steps}
use Rattle.model.proofs.Facts.{run_facts}
use Rattle.model.specs.Accepted.{Accepted, PlainFacts, Facts}
use Rattle.image.specs.declared.Layout.{Layout}
use Rattle.image.specs.declared.statement.Statement.{Statement}
use Rattle.image.specs.declared.statement.Statement.TheVariants.{U, CX, Gate, Barrier, Measure, Reset, Conditional}
use Rattle.image.specs.Entries.{as_statement}
use Rattle.image.specs.Layout.{LayoutOf}
use Rattle.image.specs.RegisterStarts.{RegisterTable, RegistersFit}
use Rattle.std.specs.Prelude.{Ok}
use Rattle.record_writer.proofs.WroteStepsLaws.{wrote_open}
use Rattle.argument.specs.Frames.{scope_frame, scope_qubits}
use Rattle.expression.specs.declared.KeptValue.{KeptValue}
use Rattle.expression.specs.KeptValues.{ConstantsKept}
use Rattle.record_writer.specs.declared.Position.{Position}
use Rattle.record_writer.specs.Promise.{RunResult, WroteSteps}
use Rattle.kept_body.specs.KeptBodies.{BodiesKept}
use Rattle.gate.specs.RunContext.{RunContext}
use Rattle.gate.specs.PlainStatement.{PlainStatement}
use Rattle.gate.specs.RanSteps.{plain_steps}
use Rattle.gate.proofs.OpenGateLaws.{statement_steps_lem}
use Rattle.statement.specs.declared.Site.{Site}
use Rattle.linearize.specs.StartContext.{StartContext, MainContext}
use Rattle.linearize.specs.MainStatement.{MainStatement}

-- ---- a main statement by its kind

-- what the check accepted of a statement that is no conditional
plain_facts : (image : List ℕ) (scope : ℕ) (x : Statement) → ((r v t : ℕ) → x ≡ Conditional r v t → ⊥) → Facts image scope (as_statement x) → PlainFacts image scope (as_statement x)
plain_facts image scope (U a b c d) h f = f
plain_facts image scope (CX a b) h f = f
plain_facts image scope (Gate g p a) h f = f
plain_facts image scope (Barrier a n) h f = f
plain_facts image scope (Measure q c) h f = f
plain_facts image scope (Reset q) h f = f
plain_facts image scope (Conditional r v t) h f = absurd (h r v t refl)

module _ (image : List ℕ) {scope : ℕ} (site : Site) (m : MainStatement image scope site) where
  abbrev s : ℕ
  s = site.statement

  -- a statement that is no conditional
  module _ {x : Statement} (e : as_statement x ≡ statement image s) (h : (r v t : ℕ) → x ≡ Conditional r v t → ⊥) where
    facts_in_main : PlainFacts image 0 (statement image s)
    facts_in_main = rw (← e) (plain_facts image 0 x h (rw e m.facts))

    pub plain_in_main : PlainStatement image scope site
    plain_in_main = record { listed = m.listed; facts = rw m.in_main facts_in_main }

    pub plain_steps_lem : (angles : List Value) (qubits : List ℕ)
        → plain_steps image site.levels_left (scope_frame image scope angles qubits) s ≡ visit_statement image (opening image site.levels_left) (scope_frame image 0 angles qubits) s
    plain_steps_lem angles qubits = rw m.in_main (statement_steps_lem image 0 site.levels_left (scope_frame image 0 angles qubits) s facts_in_main)

  -- a conditional's steps: its start, its inner statement, its end
  module _ {r v t : ℕ} (is : statement image s ≡ model.Conditional r v t) where
    pub if_facts : Facts image 0 (model.Conditional r v t)
    if_facts = subst (Facts image 0) is m.facts

    pub inner_listed : (levels-left : ℕ) → PlainStatement image scope (record { statement = t; levels_left = levels-left })
    inner_listed levels-left = record { listed = if_facts.3; facts = rw m.in_main if_facts.5 }

    module _ {register-starts : List ℕ} (starts : RegisterTable image register-starts) {n : ℕ} (en : n ≡ quantum_registers image) where
      pub conditional_steps : (angles : List Value) (qubits : List ℕ) {size at : ℕ} → size ≡ word image at → at ≡ classical_register_at image r
          → (write [] (Record.ConditionalStart (get_or register-starts (n + r) 0) size v) ∷ []) ++ (plain_steps image site.levels_left (scope_frame image scope angles qubits) t ++ write [] Record.ConditionalEnd ∷ [])
          ≡ visit_statement image (opening image site.levels_left) (scope_frame image 0 angles qubits) s
      unfolding visit_statement visit_plain visit_conditional first_bit
      conditional_steps angles qubits {size} ez ea =
          let here : get_or register-starts (n + r) 0 ≡ get_or (drop (quantum_registers image) register-starts) r 0 = ap (λ (k : ℕ). get_or register-starts (k + r) 0) en ∙ sym (get_or-drop (quantum_registers image) register-starts r 0) in
          let first : get_or register-starts (n + r) 0 ≡ first_bit image r = here ∙ starts.classical.each _ if_facts.1 in
          let b : size ≡ classical_size image r = ez ∙ ap (word image) ea in
          sym (rw (m.in_main, is, ← first, ← b) refl)

-- ---- the statements of main

-- where main's statements are run
pub main_context : {image register-starts : List ℕ} {kept-values : List KeptValue} {kept-bodies out trace : List ℕ} {at : Position} → MainContext image register-starts out trace at → ConstantsKept image kept-values → BodiesKept image kept-bodies out at.words → RunContext image register-starts kept-values kept-bodies out trace at
main_context m f b =
    record {
      context = record { with_bits = m.starts; constants = f; in_output = m.start.in_output };
      bodies = b;
      trace_length = m.start.trace_length;
    }

pub main_statement : {image : List ℕ} (acc : Accepted image) {s levels-left : ℕ} → s < main_statements image → MainStatement image 0 (record { statement = s; levels_left = levels-left })
unfolding scope_statements
main_statement {image} acc {s} h =
    record {
      in_main = refl;
      listed = omega (arith, h);
      facts = subst (λ (k : ℕ). Facts image 0 (statement image k)) (zero-add s) (run_facts image acc 0 0 (main_statements image) s zero-le refl h);
    }

-- main's frame is the same whatever angles and qubits are lent
pub main_statement_lem : (image : List ℕ) (levels-left : ℕ) (angles : List Value) (qubits : List ℕ) (s : ℕ)
    → visit_statement image (opening image levels-left) (scope_frame image 0 angles qubits) s ≡ visit_statement image (opening image levels-left) main_frame s
unfolding variables scope_qubits
main_statement_lem image levels-left angles qubits s = refl

pub main_steps_lem : (image : List ℕ) (levels-left : ℕ) {n : ℕ} → n ≡ main_statements image
    → in_rounds n (visit_statement image (opening image levels-left) main_frame) ≡ visit_body image (opening image levels-left) main_frame
unfolding visit_body scope_statements in_rounds
main_steps_lem image levels-left e = rw e refl

-- ---- the program

pub no_steps : (image : List ℕ) (depth : ℕ) {n : ℕ} → n ≡ main_statements image → n ≡ 0 → [] ≡ steps image depth
unfolding steps
no_steps image depth e h = sym (rw (eq-eqb (main_statements image) 0 (sym e ∙ h)) refl)

pub head_steps : (image : List ℕ) (depth : ℕ) {n levels-left : ℕ} → n ≡ main_statements image → ¬ (n ≡ 0) → levels-left ≡ depth - 1
    → (write [] (head_record image) ∷ []) ++ visit_body image (opening image levels-left) main_frame ≡ steps image depth
unfolding steps
head_steps image depth e h d = sym (rw (ne_eqb (main_statements image) 0 (λ z. h (e ∙ z)), ← d) refl)

-- ---- the table of where registers start

module _ {image : List ℕ} {l : Layout} (laid : LayoutOf image l) where
  -- a table that has a word for each register
  pub registers_fit : Accepted image → (table : List ℕ) → l.quantum_registers + l.classical_registers ≤ length table → RegistersFit image table
  registers_fit acc table h = record { fits = omega (arith, h, laid.quantum_registers_is, laid.classical_registers_is); few_qubits = acc.few_qubits; few_bits = acc.few_bits }

  -- an image has a word for each register
  pub registers_few : l.quantum_registers + l.classical_registers ≤ 8192
  registers_few = omega (arith, laid.quantum_registers_is, laid.classical_registers_is, laid.whole, laid.short)

-- the head is written
pub start_wrote : {ss : List Step} {out out' trace : List ℕ} {at p : Position} {r : RunResult} → StartContext out trace at → WroteSteps ss out at r out' → r ≡ Ok p → StartContext out' trace p
start_wrote {ss} {out} {out'} {at = at} {p} start w e =
    let v : WroteSteps ss out at (Ok p) out' = rw e at w in
    record { in_output = wrote_open start.in_output v; trace_length = start.trace_length; no_calls = v.level ∙ start.no_calls }
