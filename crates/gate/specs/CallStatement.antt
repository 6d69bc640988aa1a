-- Calls: what one says of itself and of its gate, what the check accepted of it, and its steps.
use Rattle.std.specs.Prelude.{ℕ, suc, ◌≤◌, ◌<◌, ◌≡◌, true, not, eqb, List, [], map}
use Rattle.value.specs.declared.Value.{Value}
use Rattle.model.specs.Lists.{range}
use Rattle.model.specs.Image.{Gate, statement, all_statements, gates, parameter_at, gate_parameters, gate_arguments, gate_body}
use Rattle.model.specs.Steps as Steps
use Rattle.model.specs.Steps.{Step, in_rounds, qubit_in, open_gate, visit_gate, opening}
use Rattle.model.specs.Limits.{most_parameters}
use Rattle.statement.specs.declared.Site.{Site}
use Rattle.statement.specs.declared.Call.{Call}
use Rattle.statement.specs.Statements.{call_rounds}
use Rattle.argument.specs.Frames.{scope_frame, CallArguments}
use Rattle.kept_body.specs.KeptBodies.{CalledGate}
use Rattle.gate.specs.RunContext.{nested}
use Rattle.gate.specs.PlainStatement.{PlainStatement}

-- the call of a gate at a site, from its first parameter and its first argument on
abbrev pub call_of : List ℕ → Site → ℕ → ℕ → ℕ → Call
call_of image site g p a =
    record {
      site = site;
      gate = g;
      expressions = parameter_at image p;
      parameters = gate_parameters image g;
      argument = a;
      arguments = gate_arguments image g;
      has_body = not (eqb (gate_body image g) 0);
    }

-- a call is what the statement of its site says, which the check accepted in a scope
pub record StatedCall (image : List ℕ) (scope : ℕ) (call : Call) : Type 0 where
  pub accepted : PlainStatement image scope call.site
  pub parameter : ℕ
  pub stated : statement image call.site.statement ≡ Gate call.gate parameter call.argument
  pub expressions_at : call.expressions ≡ parameter_at image parameter

-- a call that says of its gate what the image does, and that the check accepted in a scope
pub record CallStatement (image : List ℕ) (scope : ℕ) (call : Call) : Type 0 where
  pub parameters_are : call.parameters ≡ gate_parameters image call.gate
  pub arguments_are : call.arguments ≡ gate_arguments image call.gate
  pub body_is : call.has_body ≡ not (eqb (gate_body image call.gate) 0)
  pub listed : call.site.statement < all_statements image
  pub gate_listed : call.gate < gates image
  pub downward : call.gate < nested scope
  pub few_parameters : call.parameters ≤ most_parameters
  pub arguments_fit : CallArguments image scope call.argument call.arguments

-- a call whose gate has a body, for which a level is left
pub record OpenedCall (image : List ℕ) (call : Call) : Type 0 where
  pub called : CalledGate image call
  pub has_body : call.has_body ≡ true
  pub has_level : ¬ (call.site.levels_left ≡ 0)

-- the rounds of a call, with the angles of its gate
abbrev pub call_steps : List ℕ → Steps.Frame → Call → List Value → List Step
call_steps image frame call angles =
    in_rounds (call_rounds image frame.scope call)
    (visit_gate image (opening image call.site.levels_left) frame call.site.statement call.gate (range call.argument call.arguments) angles)

-- a round of a call whose body is opened, inside the call
unfoldable pub opened_round : List ℕ → ℕ → List ℕ → Call → List Value → ℕ → List Step
opened_round image scope qubits call angles i =
    open_gate (opening image call.site.levels_left)
    (record {
      scope = suc call.gate;
      trace = [];
      values = angles;
      qubits = map (qubit_in image (scope_frame image scope [] qubits) i) (range call.argument call.arguments);
    })
    call.gate
