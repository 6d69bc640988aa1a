-- A gate's body that was run to its end, and whose records stand in the output.
use Rattle.std.specs.Prelude.{ℕ, suc, ◌+◌, ◌≤◌, ◌≡◌, List, length, take, drop}
use Rattle.value.specs.declared.Value.{Value}
use Rattle.model.specs.Steps.{Frame, Step, open_gate, opening}
use Rattle.model.specs.Run.{done, play, output}

-- the frame of gate g's body
abbrev pub body_frame : List ℕ → ℕ → List Value → List ℕ → Frame
body_frame t g vs qs = record { scope = suc g; trace = t; values = vs; qubits = qs }

-- the steps of gate g, opened n deep with these values and qubits
abbrev pub body_steps : List ℕ → ℕ → List ℕ → ℕ → List Value → List ℕ → List Step
body_steps image n trace g vs qs = open_gate (opening image n) (body_frame trace g vs qs) g

-- gate g, opened n deep with these values and qubits, was played to its end, and its records stand in the output from a word on and before another
pub record BodyKept (image out : List ℕ) (at g n : ℕ) (vs : List Value) (qs : List ℕ) (from words records : ℕ) : Type 0 where
  pub ahead : ℕ
  pub trace : List ℕ
  pub finished : (play ahead (body_steps image n trace g vs qs)).answer ≡ done
  pub long : words ≡ length (output (play ahead (body_steps image n trace g vs qs)))
  pub stands : take words (drop from out) ≡ output (play ahead (body_steps image n trace g vs qs))
  pub counted : records ≡ length (play ahead (body_steps image n trace g vs qs)).written
  pub before : from + words ≤ at
