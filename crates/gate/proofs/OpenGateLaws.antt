-- The steps of an opened gate: the frame that a call opens it with, and the statements of its body in turn.
use Prim.Native.Nat.{ℕ, zero, suc, ◌+◌, ◌-◌, ◌<◌}
use native.Mathlib.Nat.{add-zero}
use native.Mathlib.Omega.{arith}
use mathlib.Core.Path.{◌≡◌, refl, sym, ap, subst, fun_ext, ◌∙◌}
use mathlib.Core.Bool.{Bool, true, false, not}
use mathlib.Core.List.{List, [], ◌∷◌, ◌++◌, map, flat_map, map-append}
use lib.ListN.{take, length-take}
use Rattle.value.specs.declared.Value.{Value}
use Rattle.model.specs.Lists.{range}
use Rattle.model.specs.Image.{Statement, U, CX, Gate, Barrier, Measure, Reset, Conditional, Unknown, statement, statement_at, gates, gate_arguments, variables, scope_statements}
use Rattle.model.specs.Steps.{Frame, Step, enter, in_rounds, qubit_in, push_frame, open_gate, write_opaque, visit_gate, visit_plain, visit_statement, visit_body, opening}
use Rattle.model.proofs.All.{all-All}
use Rattle.model.specs.Accepted.{Accepted, PlainFacts, Facts, Declared}
use Rattle.model.proofs.Facts.{run_facts}
use Rattle.model.proofs.StepsSound.{all_below}
use Rattle.model.proofs.TraceLaws.{under, opening_under}
use Rattle.statement.specs.declared.Call.{Call}
use Rattle.statement.specs.Statements.{call_rounds, opaque_steps, cut_round, cut_steps}
use Rattle.argument.specs.Frames.{scope_frame, scope_qubits, ScopeContext, RoundQubits}
use Rattle.gate.specs.RanSteps.{plain_steps, opened_steps}
use Rattle.gate.specs.CallStatement.{CallStatement, call_steps, opened_round}

-- ---- the rounds of a call

-- the two answers of a test by its contrary
pub not_true : (b : Bool) → not b ≡ true → b ≡ false
not_true true e = sym e
not_true false e = refl

pub not_false : (b : Bool) → not b ≡ false → b ≡ true
not_false true e = refl
not_false false e = sym e

-- the steps of rounds under a caller's words
map_under : (u : List ℕ) (xs ys : List Step) → map (under u) (xs ++ ys) ≡ map (under u) xs ++ map (under u) ys
map_under u xs ys = map-append (under u) xs ys

range_under : (u : List ℕ) (h : ℕ → List Step) (is : List ℕ) → map (under u) (flat_map h is) ≡ flat_map (λ i. map (under u) (h i)) is
unfolding flat_map
range_under u h [] = refl
range_under u h (i ∷ is) = map_under u (h i) (flat_map h is) ∙ ap (λ (l : List Step). map (under u) (h i) ++ l) (range_under u h is)

rounds_under : (u : List ℕ) (h : ℕ → List Step) (n : ℕ) → map (under u) (in_rounds n h) ≡ in_rounds n (λ i. map (under u) (h i))
unfolding in_rounds
rounds_under u h n = range_under u h (range 0 n)

module _ {image : List ℕ} {scope : ℕ} {call : Call} (c : CallStatement image scope call) where
  -- the frame that it opens a body with
  module _ {qubits : List ℕ} {i : ℕ} {q : List ℕ} (k : RoundQubits image scope qubits call.argument call.arguments i q) where
    new_qubits : take (gate_arguments image call.gate) q ≡ map (qubit_in image (scope_frame image scope [] qubits) i) (range call.argument call.arguments)
    new_qubits = ap (λ (n : ℕ). take n q) (sym c.arguments_are) ∙ k.front

    pub opened_in_scope : (acc : Accepted image) → ScopeContext image scope qubits → i < call_rounds image scope call → ScopeContext image (suc call.gate) q
    unfolding scope_qubits
    opened_in_scope acc st h =
        record {
          sixteen = k.sixteen;
          frame = (
            c.gate_listed,
            omega arith,
            length-take (gate_arguments image call.gate) q ∙ omega (arith, c.arguments_are, c.arguments_fit.few, k.sixteen),
            subst (Declared image) (sym new_qubits)
                (all_below image acc (scope_frame image scope [] qubits) st.frame i (range call.argument call.arguments) (all-All _ _ c.arguments_fit.each) c.arguments_fit.match h),
          );
        }

    pub opened_round_lem : (angles : List Value) → opened_steps image call angles q ≡ opened_round image scope qubits call (take call.parameters angles) i
    unfolding opened_round scope_qubits variables
    opened_round_lem angles = rw (new_qubits, c.parameters_are) refl

  -- the steps of the rounds inside the call, under the call's pair of words
  module _ (qubits : List ℕ) (angles xs : List Value) where
    abbrev pair : List ℕ
    pair = scope ∷ statement_at image call.site.statement ∷ []

    abbrev caller : Frame
    caller = scope_frame image scope angles qubits

    pub opened_rounds : call.has_body ≡ true → map (under pair) (in_rounds (call_rounds image scope call) (opened_round image scope qubits call xs)) ≡ call_steps image caller call xs
    unfolding visit_gate push_frame opened_round qubit_in
    opened_rounds h =
        rounds_under pair (opened_round image scope qubits call xs) (call_rounds image scope call)
        ∙ ap (in_rounds (call_rounds image scope call)) (fun_ext λ i.
        sym (opening_under pair image call.site.levels_left (record { scope = suc call.gate; trace = []; values = xs; qubits = map (qubit_in image (scope_frame image scope [] qubits) i) (range call.argument call.arguments) }) call.gate)
        ∙ rw (not_true _ (sym c.body_is ∙ h)) refl)

    -- no level is left: the gate itself in each round
    pub cut_rounds : call.has_body ≡ true → call.site.levels_left ≡ 0 → map (under pair) (cut_steps image scope qubits call) ≡ call_steps image caller call xs
    unfolding cut_round opened_round open_gate opening
    cut_rounds h e =
        ap (λ (round : ℕ → List Step). map (under pair) (in_rounds (call_rounds image scope call) round)) (fun_ext λ i. rw e refl) ∙ opened_rounds h

    -- an opaque gate's rounds
    pub opaque_rounds : call.has_body ≡ false → opaque_steps image scope qubits call xs ≡ call_steps image caller call xs
    unfolding visit_gate write_opaque qubit_in
    opaque_rounds h = ap (in_rounds (call_rounds image scope call)) (fun_ext λ i. rw (not_false _ (sym c.body_is ∙ h)) refl)

-- ---- statements in turn

-- statements from one on, as rounds
from_later : (g : ℕ → List Step) (a k n : ℕ) → flat_map g (range (a + k) n) ≡ flat_map (λ i. g (a + i)) (range k n)
unfolding flat_map range
from_later g a k zero = refl
from_later g a k (suc n) =
    let e : suc (a + k) ≡ a + suc k = omega arith in
    ap (λ (l : List Step). g (a + k) ++ l) (ap (λ (m : ℕ). flat_map g (range m n)) e ∙ from_later g a (suc k) n)

pub from_first : (g : ℕ → List Step) (a n : ℕ) → flat_map g (range a n) ≡ in_rounds n (λ i. g (a + i))
unfolding in_rounds
from_first g a n = ap (λ (m : ℕ). flat_map g (range m n)) (sym (add-zero a)) ∙ from_later g a 0 n

-- a plain statement does what it does, whatever an if would
plain_any : (image : List ℕ) (scope : ℕ) (c d : ℕ → ℕ → ℕ → List Step) (levels-left : ℕ) (frame : Frame) (s : ℕ) (x : Statement) → PlainFacts image scope x
    → visit_plain image c (opening image levels-left) frame s x ≡ visit_plain image d (opening image levels-left) frame s x
unfolding visit_plain
plain_any image scope c d levels-left frame s (U p q r t) f = refl
plain_any image scope c d levels-left frame s (CX a b) f = refl
plain_any image scope c d levels-left frame s (Gate g p a) f = refl
plain_any image scope c d levels-left frame s (Barrier a n) f = refl
plain_any image scope c d levels-left frame s (Measure q b) f = refl
plain_any image scope c d levels-left frame s (Reset q) f = refl
plain_any image scope c d levels-left frame s (Conditional r v t) f = absurd f
plain_any image scope c d levels-left frame s Unknown f = absurd f

pub statement_steps_lem : (image : List ℕ) (scope levels-left : ℕ) (frame : Frame) (s : ℕ) → PlainFacts image scope (statement image s) → plain_steps image levels-left frame s ≡ visit_statement image (opening image levels-left) frame s
unfolding visit_statement
statement_steps_lem image scope levels-left frame s f = plain_any image scope _ _ levels-left frame s (statement image s) f

module _ (image : List ℕ) (acc : Accepted image) where
  no_if_in_bodies : (g : ℕ) (x : Statement) → Facts image (suc g) x → PlainFacts image (suc g) x
  no_if_in_bodies g (U p q r t) f = f
  no_if_in_bodies g (CX a b) f = f
  no_if_in_bodies g (Gate h p a) f = f
  no_if_in_bodies g (Barrier a n) f = f
  no_if_in_bodies g (Measure q b) f = f
  no_if_in_bodies g (Reset q) f = f
  no_if_in_bodies g (Conditional r v t) f = absurd (let e = f.0 in omega arith)
  no_if_in_bodies g Unknown f = f

  pub body_facts : (g first count i : ℕ) → g < gates image → scope_statements image (suc g) ≡ range first count → i < count → PlainFacts image (suc g) (statement image (first + i))
  body_facts g first count i h run k = no_if_in_bodies g (statement image (first + i)) (run_facts image acc (suc g) first count i h run k)

module _ (image : List ℕ) (g levels-left : ℕ) (angles : List Value) (q : List ℕ) where
  abbrev opened : Frame
  opened = scope_frame image (suc g) angles q

  abbrev pub body_statement : ℕ → List Step
  body_statement s = visit_statement image (opening image (levels-left - 1)) opened s

  pub open_steps : (first n : ℕ) → ¬ (levels-left ≡ 0) → scope_statements image (suc g) ≡ range first n → enter [] g ∷ in_rounds n (λ i. body_statement (first + i)) ≡ open_gate (opening image levels-left) opened g
  unfolding open_gate opening visit_body
  open_steps first n h run =
      let e : suc (levels-left - 1) ≡ levels-left = omega arith in
      ap (λ (l : List Step). enter [] g ∷ l) (sym (from_first (visit_statement image (opening image (levels-left - 1)) opened) first n))
      ∙ rw (← run) refl ∙ ap (λ (k : ℕ). open_gate (opening image k) opened g) e
