-- Laws of `Accepted`: an image that the check accepts has what it says.
use Prim.Native.Nat.{ℕ, zero, suc, ◌≤◌, ◌<◌}
use native.Mathlib.Omega.{arith}
use mathlib.Core.Path.{◌≡◌, refl, sym, subst}
use mathlib.Core.Bool.{Bool, true, false, ◌&&◌, cond}
use mathlib.Core.List.{List, [], ◌∷◌, map}
use lib.Dec.{T, ltb, eqb, leb→le, ltb→lt, eqb→eq}
use lib.ListN.{get_or}
use Rattle.model.specs.Lists.{range, sum}
use Rattle.model.specs.All.{All, nil, cons}
use Rattle.model.specs.Accepted.{Accepted}
use Rattle.model.proofs.All.{and_t, test, of-All, flat-All, range-All}
use Rattle.model.specs.Image.{gates, gate_parameters, gate_arguments, quantum_registers, classical_registers, quantum_size, classical_size, first_qubit, first_bit, scope_statements, quantum_register_at, classical_register_at}
use Rattle.model.specs.Check.{Flaw, fine, bad, or_else, first_of, first_bad, contents_ok, register_flaw, gate_ok, gate_flaw, every_statement, registers, gate_entries, statement_entries, check}

-- tests that give a number each: where none is given the i-th passes
abbrev pub numbered : List (Bool × ℕ) → Bool
numbered [] = true
numbered (t ∷ ts) = ltb 0 t.1 && numbered ts

pub passes : (i : ℕ) (ts : List (Bool × ℕ)) → first_of ts ≡ 0 → T (numbered ts) → T (get_or ts i (true, 1)).0
unfolding first_of
passes i [] e n = tt
passes i (t ∷ ts) e n = go t.0 refl e (and_t (ltb 0 t.1) (numbered ts) n) (λ j d m. passes j ts d m) i
  where
    go : (b : Bool) → t.0 ≡ b → cond b (first_of ts) t.1 ≡ 0 → T (ltb 0 t.1) × T (numbered ts)
        → ((j : ℕ) → first_of ts ≡ 0 → T (numbered ts) → T (get_or ts j (true, 1)).0) → (i : ℕ) → T (get_or (t ∷ ts) i (true, 1)).0
    go true p q n later zero = subst T (sym p) tt
    go true p q n later (suc j) = later j q n.1
    go false p q n later j = absurd (omega (arith, ltb→lt 0 t.1 n.0))

or_else_lem : (u v : Flaw) → or_else u v ≡ fine → (u ≡ fine) × (v ≡ fine)
or_else_lem fine v e = (refl, e)
or_else_lem (bad n p) v e = absurd (let z : ◌≡◌ {A = ℕ} 0 1 = cc in omega arith)

pick : (b : Bool) (v : Flaw) (n p : ℕ) → cond b v (bad n p) ≡ fine → T b × (v ≡ fine)
pick true v n p e = (tt, e)
pick false v n p e = absurd (let z : ◌≡◌ {A = ℕ} 0 1 = cc in omega arith)

pub none_bad : {A : Type 0} (number place : A → ℕ) (l : List A) → first_bad number place l ≡ fine → All (λ x. number x ≡ 0) l
unfolding first_bad
none_bad number place [] e = nil
none_bad number place (x ∷ l) e =
    let s = pick (eqb (number x) 0) (first_bad number place l) (number x) (place x) e in
    cons (eqb→eq (number x) 0 s.0) (none_bad number place l s.1)

-- with each register the total so far is at most 4096, so with all of them
in_all : (sizes : ℕ → ℕ) (n : ℕ) → ((r : ℕ) → r < n → sum (map sizes (range 0 (suc r))) ≤ 4096) → sum (map sizes (range 0 n)) ≤ 4096
unfolding sum range
in_all sizes zero h = omega arith
in_all sizes (suc r) h = h r (omega arith)

pub accepts : (w : List ℕ) → check w ≡ fine → Accepted w
unfolding check registers gate_entries statement_entries every_statement register_flaw gate_flaw contents_ok first_qubit first_bit
accepts w e =
    let a = pick (contents_ok w) (or_else (registers w) (or_else (gate_entries w) (statement_entries w))) 1 0 e in
    let b = or_else_lem (registers w) (or_else (gate_entries w) (statement_entries w)) a.1 in
    let c = or_else_lem (gate_entries w) (statement_entries w) b.1 in
    let d = or_else_lem (first_bad (register_flaw (quantum_size w)) (quantum_register_at w) (range 0 (quantum_registers w))) (first_bad (register_flaw (classical_size w)) (classical_register_at w) (range 0 (classical_registers w))) b.0 in
    let q : (r : ℕ) → r < quantum_registers w → register_flaw (quantum_size w) r ≡ 0 = λ r h. range-All {P = λ r. register_flaw (quantum_size w) r ≡ 0} 0 (quantum_registers w) r (none_bad _ _ _ d.0) (omega arith) (omega arith) in
    let k : (r : ℕ) → r < classical_registers w → register_flaw (classical_size w) r ≡ 0 = λ r h. range-All {P = λ r. register_flaw (classical_size w) r ≡ 0} 0 (classical_registers w) r (none_bad _ _ _ d.1) (omega arith) (omega arith) in
    record {
      few_gates = leb→le (gates w) 128 (test 4 _ a.0);
      qsizes = λ r h. leb→le 1 (quantum_size w r) (test 0 _ (passes 0 _ (q r h) tt));
      csizes = λ r h. leb→le 1 (classical_size w r) (test 0 _ (passes 0 _ (k r h) tt));
      few_qubits = in_all (quantum_size w) (quantum_registers w) (λ r h. leb→le _ 4096 (test 2 _ (passes 0 _ (q r h) tt)));
      few_bits = in_all (classical_size w) (classical_registers w) (λ r h. leb→le _ 4096 (test 2 _ (passes 0 _ (k r h) tt)));
      gate_entry = λ g h. passes 0 _ (range-All {P = λ g. gate_flaw w g ≡ 0} 0 (gates w) g (none_bad _ _ _ c.0) (omega arith) (omega arith)) tt;
      flawless = λ scope h.
          of-All _ _
          (range-All 0 (suc (gates w)) scope (flat-All (λ scope. map (λ s. (scope, s)) (scope_statements w scope)) _ (none_bad _ _ _ c.1)) (omega arith) (omega arith));
    }

-- its contents add up
pub contents_right : (image : List ℕ) → check image ≡ fine → contents_ok image ≡ false → ⊥
unfolding check
contents_right image ok wrong = let e : bad 1 0 ≡ fine = rw wrong at ok in let z : ◌≡◌ {A = ℕ} 0 1 = cc in omega arith

-- a gate has at most 16 parameters, and at most 16 arguments
module _ {image : List ℕ} (a : Accepted image) (g : ℕ) (h : g < gates image) where
  pub few_parameters : gate_parameters image g ≤ 16
  unfolding gate_ok
  few_parameters = leb→le (gate_parameters image g) 16 (test 0 _ (a.gate_entry g h))

  pub few_arguments : gate_arguments image g ≤ 16
  unfolding gate_ok
  few_arguments = leb→le (gate_arguments image g) 16 (test 1 _ (a.gate_entry g h))
