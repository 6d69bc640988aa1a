-- A table of where each register starts.
use Rattle.std.specs.Prelude.{ℕ, ◌+◌, ◌≤◌, ◌<◌, ◌≡◌, List, map, length, get_or, drop}
use Rattle.model.specs.Lists.{range, sum}
use Rattle.model.specs.Limits.{most_elements}
use Rattle.model.specs.Image.{quantum_size, quantum_registers, classical_size, classical_registers, qubits, bits}

-- the first qubit or bit of each of n registers of some sizes, as first_qubit and first_bit say
pub record RegisterStarts (size : ℕ → ℕ) (n : ℕ) (table : List ℕ) : Type 0 where
  -- the table has a word for each register
  pub fits : n ≤ length table
  pub each : (r : ℕ) → r < n → get_or table r 0 ≡ sum (map size (range 0 r))

-- one table for both sorts of registers: the first qubit of each quantum register, then the first bit of each classical one
pub record RegisterTable (image table : List ℕ) : Type 0 where
  pub quantum : RegisterStarts (quantum_size image) (quantum_registers image) table
  pub classical : RegisterStarts (classical_size image) (classical_registers image) (drop (quantum_registers image) table)

-- a table has a word for each register, and the qubits and the bits are within the limit
pub record RegistersFit (image table : List ℕ) : Type 0 where
  pub fits : quantum_registers image + classical_registers image ≤ length table
  pub few_qubits : qubits image ≤ most_elements
  pub few_bits : bits image ≤ most_elements
