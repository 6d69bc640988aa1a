-- What a scope's statements have at hand, in the model's words, and the qubits and bits of their arguments.
use Rattle.std.specs.Prelude.{ℕ, zero, suc, ◌+◌, ◌-◌, ◌*◌, ◌≤◌, ◌<◌, ◌≡◌, cond, List, [], map, T, eqb, length, take}
use Rattle.value.specs.declared.Value.{Value}
use Rattle.model.specs.Limits.{most_words, most_arguments, most_elements}
use Rattle.model.specs.Lists.{range, sum, all}
use Rattle.model.specs.Check.{argument_ok, classical_argument_ok, matching}
use Rattle.model.specs.Image.{word, arguments, gate_arguments, variables, argument_size, classical_argument_size, argument_register, argument_index, first_bit}
use Rattle.model.specs.Steps.{Frame, resolve_qreg, qubit_in}
use Rattle.model.specs.Accepted.{FrameOk}
use Rattle.image.specs.RegisterStarts.{RegisterStarts}
use Rattle.argument.specs.declared.Argument.{Argument}

-- how many qubits the frame of a scope has: none in main, one for each argument of its gate in a body
unfoldable pub scope_qubits : List ℕ → ℕ → ℕ
scope_qubits image zero = 0
scope_qubits image (suc g) = gate_arguments image g

-- a scope's frame: as many of sixteen angles and qubits as the scope has
abbrev pub scope_frame : List ℕ → ℕ → List Value → List ℕ → Frame
scope_frame image scope angles qubits = record { scope = scope; trace = []; values = take (variables image scope) angles; qubits = take (scope_qubits image scope) qubits }

-- where the statements of a scope are run: sixteen qubits have the scope's frame in front, and its qubits are declared ones
pub record ScopeContext (image : List ℕ) (scope : ℕ) (qubits : List ℕ) : Type 0 where
  pub sixteen : length qubits ≡ most_arguments
  pub frame : FrameOk image scope [] (take (scope_qubits image scope) qubits)

-- ---- arguments

-- a part of a register, or the whole, by the two words at a place, where the registers' sizes stand from another place on
abbrev pub register_argument : List ℕ → ℕ → ℕ → Argument
register_argument image sizes at =
    record {
      first = sum (map (λ i. word image (sizes + i)) (range 0 (word image at))) + (word image (at + 1) - 1);
      size = cond (eqb (word image (at + 1)) 0) (word image (sizes + word image at)) 1;
    }

-- the two words at a place name a part of a register, and the table tells where the registers start
pub record RegisterEntry (image register-starts : List ℕ) (sizes at : ℕ) : Type 0 where
  pub count : ℕ
  pub starts : RegisterStarts (λ i. word image (sizes + i)) count register-starts
  pub few : count ≤ most_elements
  pub listed : word image at < count
  pub below : (register_argument image sizes at).first < most_elements
  pub near : (sizes ≤ 2 * most_words) × (at ≤ 2 * most_words)

-- the first qubit of a quantum argument of a scope, and its size
abbrev pub quantum_argument : List ℕ → ℕ → List ℕ → ℕ → Argument
quantum_argument image scope qubits a = record { first = resolve_qreg image scope (take (scope_qubits image scope) qubits) a; size = argument_size image scope a }

-- the first bit of a classical argument, and its size
abbrev pub classical_argument : List ℕ → ℕ → Argument
classical_argument image a = record { first = first_bit image (argument_register image a) + (argument_index image a - 1); size = classical_argument_size image a }

-- the qubit or bit of an argument in a round
abbrev pub number_in_round : Argument → ℕ → ℕ
number_in_round x i = x.first + cond (eqb x.size 1) 0 i

-- argument a, which the check accepted in a scope
pub record AcceptedArgument (image : List ℕ) (scope a : ℕ) : Type 0 where
  pub listed : a < arguments image
  pub ok : T (argument_ok image scope a)

-- argument c, which the check accepted as a classical one
pub record AcceptedBits (image : List ℕ) (c : ℕ) : Type 0 where
  pub listed : c < arguments image
  pub ok : T (classical_argument_ok image c)

-- n arguments from a on, which the check accepted in a scope
pub record AcceptedArguments (image : List ℕ) (scope a n : ℕ) : Type 0 where
  pub listed : a + n ≤ arguments image
  pub each : T (all (argument_ok image scope) (range a n))

-- ---- calls

-- n arguments from a on that a call may have in a scope
pub record CallArguments (image : List ℕ) (scope a n : ℕ) : Type 0 where
  pub few : n ≤ most_arguments
  pub listed : a + n ≤ arguments image
  pub each : T (all (argument_ok image scope) (range a n))
  pub match : T (matching (map (argument_size image scope) (range a n)))

-- the qubits of n arguments in a round stand in front of sixteen
pub record RoundQubits (image : List ℕ) (scope : ℕ) (qubits : List ℕ) (a n i : ℕ) (q : List ℕ) : Type 0 where
  pub sixteen : length q ≡ most_arguments
  pub front : take n q ≡ map (qubit_in image (scope_frame image scope [] qubits) i) (range a n)
