-- What a scope's number says of its variables and of its arguments: a scope that is not 0 is one more than its gate.
use Prim.Native.Nat.{ℕ, zero, suc, ◌+◌, ◌-◌}
use mathlib.Core.Path.{◌≡◌, refl}
use mathlib.Core.Bool.{◌&&◌, and-true}
use mathlib.Core.List.{List}
use lib.Dec.{leb, ltb, eqb}
use native.Mathlib.Omega.{arith}
use Rattle.model.specs.Lists.{every}
use Rattle.model.specs.Image.{word, quantum_registers, gate_at, quantum_size, argument_register, argument_index, variables}
use Rattle.model.specs.Check.{argument_ok}

pub variables_main : (image : List ℕ) (scope : ℕ) → scope ≡ 0 → variables image scope ≡ 0
unfolding variables
variables_main image scope z = rw z refl

pub variables_body : (image : List ℕ) (scope : ℕ) → ¬ (scope ≡ 0) → variables image scope ≡ word image (gate_at image (scope - 1))
unfolding variables
variables_body image zero z = absurd (z refl)
variables_body image (suc g) z = let same : suc g - 1 ≡ g = omega arith in rw same refl

pub argument_main : (image : List ℕ) (scope a : ℕ) → scope ≡ 0
    → argument_ok image scope a ≡ (ltb (argument_register image a) (quantum_registers image) && leb (argument_index image a) (quantum_size image (argument_register image a)))
unfolding argument_ok every
argument_main image scope a z = rw (z, and-true (leb (argument_index image a) (quantum_size image (argument_register image a)))) refl

pub argument_body : (image : List ℕ) (scope a : ℕ) → ¬ (scope ≡ 0)
    → argument_ok image scope a ≡ (ltb (argument_register image a) (word image (gate_at image (scope - 1) + 1)) && eqb (argument_index image a) 0)
unfolding argument_ok every
argument_body image zero a z = absurd (z refl)
argument_body image (suc g) a z = let same : suc g - 1 ≡ g = omega arith in rw (and-true (eqb (argument_index image a) 0), same) refl
