-- What the check accepted of a call, and its steps where its parameters have values and where one is refused.
use Prim.Native.Nat.{ℕ, zero, suc, ◌+◌, ◌<◌}
use native.Mathlib.Nat.{add-zero}
use native.Mathlib.Omega.{arith}
use mathlib.Core.Path.{◌≡◌, refl, sym, ap, ap₂, subst, ◌∙◌}
use mathlib.Core.List.{List, [], ◌∷◌, map}
use lib.Dec.{T, ltb→lt}
use Rattle.value.specs.declared.Value.{Value}
use Rattle.model.specs.Lists.{range, all}
use Rattle.model.specs.Image.{Statement, Gate, word, statement, parameter_at, parameter, gates, gate_parameters, variables}
use Rattle.model.specs.Check.{expression_ok, downward}
use Rattle.model.specs.Steps.{Frame, refuse, Refusal, have, lack, given, parameter_values, with_values, qubit_in, write_opaque, push_frame, visit_gate, visit_plain}
use Rattle.model.proofs.All.{all-All, All-all, All-of}
use Rattle.model.proofs.Accepted.{few_parameters, few_arguments}
use Rattle.model.specs.Accepted.{Accepted, PlainFacts}
use Rattle.image.specs.declared.Layout.{Layout}
use Rattle.image.specs.Layout.{LayoutOf}
use Rattle.image.specs.declared.statement.Statement as code
use Rattle.image.specs.Entries.{as_statement, statement_read}
use Rattle.std.specs.Prelude.{Option, Some}
use Rattle.statement.specs.declared.Site.{Site}
use Rattle.statement.specs.declared.Call.{Call}
use Rattle.argument.specs.Frames.{scope_frame, ScopeContext}
use Rattle.expression.specs.NamedExpressions.{named_at, ListedExpressions}
use Rattle.gate.specs.RunContext.{nested}
use Rattle.gate.specs.PlainStatement.{PlainStatement}
use Rattle.gate.specs.RanSteps.{plain_steps}
use Rattle.gate.specs.CallStatement.{call_of, StatedCall, CallStatement, call_steps}
use Rattle.expression.proofs.NamedExpressionLaws.{listed_values}
use Rattle.gate.proofs.PrimitiveStatementLaws.{few_variables}

-- the words of consecutive parameters
parameters_from : (image : List ℕ) (p k n : ℕ) → map (λ i. word image (parameter_at image p + i)) (range k n) ≡ map (parameter image) (range (p + k) n)
unfolding range
parameters_from image p k zero = refl
parameters_from image p k (suc n) =
    let e : parameter_at image p + k ≡ parameter_at image (p + k) = omega arith in
    let f : p + suc k ≡ suc (p + k) = omega arith in
    ap₂ (λ (x : ℕ) (y : List ℕ). x ∷ y) (ap (word image) e) (parameters_from image p (suc k) n ∙ ap (λ (m : ℕ). map (parameter image) (range m n)) f)

named_is : (image : List ℕ) (p n : ℕ) → named_at image (parameter_at image p) n ≡ map (parameter image) (range p n)
named_is image p n = parameters_from image p 0 n ∙ ap (λ (m : ℕ). map (parameter image) (range m n)) (add-zero p)

-- ---- what the check says

-- the statement that was read
pub statement_is : {x : Option code.Statement} {entry : code.Statement} {stated : Statement} → statement_read x ≡ stated → x ≡ Some entry → as_statement entry ≡ stated
statement_is r u = rw u at r

module _ {image : List ℕ} {l : Layout} (laid : LayoutOf image l) (acc : Accepted image) {scope : ℕ} (site : Site) (f : PlainStatement image scope site) where
  below : (g : ℕ) → g < gates image → (scope : ℕ) → T (downward scope g) → g < nested scope
  unfolding downward
  below g h zero d = omega (arith, acc.few_gates)
  below g h (suc k) d = ltb→lt g k d

  module _ {g p a : ℕ} (stated : statement image site.statement ≡ Gate g p a) where
    abbrev call_facts : PlainFacts image scope (Gate g p a)
    call_facts = subst (PlainFacts image scope) stated f.facts

    pub calls : CallStatement image scope (call_of image site g p a)
    calls =
        record {
          parameters_are = refl;
          arguments_are = refl;
          body_is = refl;
          listed = f.listed;
          gate_listed = call_facts.0;
          downward = below g call_facts.0 scope call_facts.3;
          few_parameters = few_parameters acc g call_facts.0;
          arguments_fit = record { few = few_arguments acc g call_facts.0; listed = call_facts.2; each = call_facts.5; match = call_facts.6 };
        }

    pub states : StatedCall image scope (call_of image site g p a)
    states = record { accepted = f; parameter = p; stated = stated; expressions_at = refl }

module _ {image : List ℕ} {l : Layout} (laid : LayoutOf image l) (acc : Accepted image) {scope : ℕ} {call : Call} (c : CallStatement image scope call) (s : StatedCall image scope call) {qubits : List ℕ} (st : ScopeContext image scope qubits) where
  -- the words that name its parameters
  named : named_at image call.expressions call.parameters ≡ map (parameter image) (range s.parameter (gate_parameters image call.gate))
  named = rw (s.expressions_at, c.parameters_are) (named_is image s.parameter (gate_parameters image call.gate))

  pub named_listed : ListedExpressions image (variables image scope) call.expressions call.parameters
  named_listed = let k = subst (PlainFacts image scope) s.stated s.accepted.facts in
      record {
        few = (c.few_parameters, few_variables image acc scope _ st.frame);
        near = omega (arith, s.expressions_at, c.parameters_are, k.1, laid.whole, laid.short);
        each = subst (λ (es : List ℕ). T (all (expression_ok image (variables image scope) 32) es)) (sym named) (All-all _ (All-of (parameter image) (all-All _ _ k.4)));
      }

  -- ---- its steps

  module _ (angles : List Value) where
    abbrev frame : Frame
    frame = scope_frame image scope angles qubits

    gate_steps : plain_steps image call.site.levels_left frame call.site.statement ≡ with_values image frame (named_at image call.expressions call.parameters) (call_steps image frame call)
    unfolding visit_plain
    gate_steps = rw (s.stated, named, c.arguments_are) refl

    -- the caller's angles do not show in the rounds
    same_call : (xs : List Value) → call_steps image (scope_frame image scope [] qubits) call xs ≡ call_steps image frame call xs
    unfolding visit_gate write_opaque push_frame qubit_in
    same_call xs = refl

    pub gate_given : {xs : List Value} → parameter_values image angles (named_at image call.expressions call.parameters) ≡ have xs
        → call_steps image (scope_frame image scope [] qubits) call xs ≡ plain_steps image call.site.levels_left frame call.site.statement
    unfolding with_values given
    gate_given {xs} h = same_call xs ∙ sym (gate_steps ∙ rw (listed_values image (variables image scope) angles named_listed ∙ h) refl)

    pub gate_refused : {x : Refusal} → parameter_values image angles (named_at image call.expressions call.parameters) ≡ lack x → refuse [] x ∷ [] ≡ plain_steps image call.site.levels_left frame call.site.statement
    unfolding with_values given
    gate_refused h = sym (gate_steps ∙ rw (listed_values image (variables image scope) angles named_listed ∙ h) refl)
