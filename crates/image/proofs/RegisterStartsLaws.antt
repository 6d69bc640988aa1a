-- The table of where registers start grows by one register after another.
use Prim.Native.Nat.{ℕ, ◌+◌, ◌-◌, ◌≤◌, ◌<◌, zero-le}
use native.Mathlib.Omega.{arith}
use mathlib.Core.Path.{◌≡◌, sym, ap, ◌∙◌}
use mathlib.Core.Logic.{◌⊎◌, inl, inr}
use mathlib.Core.List.{List, map, ◌++◌}
use lib.ListN.{length, get_or, set, take, drop, length-set, length-drop, length-append, get_or-append}
use native.Mathlib.Nat.{eq-or-lt_of_le, zero-add, add-zero}
use lib.Seq.{get_or-set_same, get_or-set_other, get_or-take, length-take-le, drop-append_seam}
use Rattle.model.specs.Lists.{range, sum}
use Rattle.model.proofs.Ranges.{sum_next}
use Rattle.model.proofs.StepsSound.{sum_below}
use Rattle.model.specs.Image.{word, quantum_registers, quantum_register_at, classical_register_at, first_qubit, first_bit}
use Rattle.image.specs.declared.Layout.{Layout}
use Rattle.image.specs.Layout.{LayoutOf, PlaceIs}
use Rattle.image.specs.RegisterStarts.{RegisterStarts, RegisterTable, RegistersFit}

module _ (size : ℕ → ℕ) where
  pub firsts_none : (table : List ℕ) → RegisterStarts size 0 table
  firsts_none table = record { fits = zero-le; each = λ r h. absurd (omega arith) }

  pub firsts_next : (i total : ℕ) (table : List ℕ) → i < length table → total ≡ sum (map size (range 0 i)) → RegisterStarts size i table → RegisterStarts size (i + 1) (set table i total)
  firsts_next i total table h t f = record { fits = omega (arith, length-set table i total); each = λ r l. go r (eq-or-lt_of_le (omega arith)) }
    where
      go : (r : ℕ) → (r ≡ i) ⊎ (r < i) → get_or (set table i total) r 0 ≡ sum (map size (range 0 r))
      go r (inl e) = rw (e, get_or-set_same table i total 0 h) t
      go r (inr l) = rw (get_or-set_other table i r total 0 (λ e. omega arith)) (f.each r l)

  -- one more register passes no total that all of them keep
  pub total_within : (i n total : ℕ) → i < n → total ≡ sum (map size (range 0 i)) → sum (map size (range 0 n)) ≤ 4096 → total + size i ≤ 4096
  total_within i n total h t m = omega (arith, sum_below size 0 n i h, ap size (zero-add i))

  -- the total of the sizes, with one register more
  pub total_next : (i total : ℕ) → total ≡ sum (map size (range 0 i)) → sum (map size (range 0 (i + 1))) ≡ total + size i
  total_next i total e = sum_next size 0 i ∙ omega (arith, ap size (zero-add i))

-- ---- one table for both sorts

-- the part of a table from a number on is as long as what is left of it
pub part_length : (n : ℕ) (xs : List ℕ) {m k : ℕ} → n ≡ m → length xs ≡ k → length (take (length xs - n) (drop n xs)) ≡ k - m
part_length n xs e f = length-take-le (length xs - n) (drop n xs) (omega (arith, length-drop n xs)) ∙ omega (arith, e, f)

module _ {image : List ℕ} {l : Layout} (laid : LayoutOf image l) {table : List ℕ} (fit : RegistersFit image table) where
  -- the list of classical registers begins after that of quantum ones
  classical_at : {at : ℕ} → PlaceIs (classical_register_at image 0) at → at ≡ 9 + quantum_registers image
  classical_at p = p.is ∙ add-zero (9 + quantum_registers image)

  pub quantum_fits : {at : ℕ} → PlaceIs (quantum_register_at image 0) at
      → (at ≤ 16384) × (l.quantum_registers ≤ length table) × (sum (map (λ i. word image (at + i)) (range 0 l.quantum_registers)) ≤ 4096)
  unfolding first_qubit
  quantum_fits p = rw (p.is, laid.quantum_registers_is) (omega arith, omega (arith, fit.fits), fit.few_qubits)

  pub classical_fits : {n : ℕ} → n ≡ length table - quantum_registers image → {at : ℕ} → PlaceIs (classical_register_at image 0) at
      → (at ≤ 16384) × (l.classical_registers ≤ n) × (sum (map (λ i. word image (at + i)) (range 0 l.classical_registers)) ≤ 4096)
  unfolding first_bit
  classical_fits h p = rw (classical_at p, laid.classical_registers_is) (omega (arith, laid.whole, laid.short), omega (arith, h, fit.fits), fit.few_bits)

  -- the starts of the classical registers stand behind those of the quantum ones
  pub both_starts : (xs ys rest : List ℕ) {quantum-place classical-place : ℕ} → PlaceIs (quantum_register_at image 0) quantum-place → PlaceIs (classical_register_at image 0) classical-place
      → RegisterStarts (λ i. word image (quantum-place + i)) l.quantum_registers xs → RegisterStarts (λ i. word image (classical-place + i)) l.classical_registers ys
      → RegisterTable image (take l.quantum_registers xs ++ (ys ++ rest))
  both_starts xs ys rest {quantum-place} {classical-place} p r q b =
      let n = l.quantum_registers in
      let e : length (take n xs) ≡ n = length-take-le n xs q.fits in
      let behind : drop n (take n xs ++ (ys ++ rest)) ≡ ys ++ rest = ap (λ (m : ℕ). drop m (take n xs ++ (ys ++ rest))) (sym e) ∙ drop-append_seam (take n xs) (ys ++ rest) in
      let front : RegisterStarts (λ i. word image (quantum-place + i)) n (take n xs ++ (ys ++ rest)) = record {
        fits = omega (arith, length-append (take n xs) (ys ++ rest), e);
        each = λ i h. get_or-append (take n xs) (ys ++ rest) 0 i (omega (arith, e)) ∙ get_or-take n xs i 0 h ∙ q.each i h;
      } in
      let later : RegisterStarts (λ i. word image (classical-place + i)) l.classical_registers (drop n (take n xs ++ (ys ++ rest))) = rw behind (record {
        fits = omega (arith, length-append ys rest, b.fits);
        each = λ i h. get_or-append ys rest 0 i (omega (arith, b.fits)) ∙ b.each i h;
      }) in
      rw laid.quantum_registers_is (record { quantum = rw (p.is, laid.quantum_registers_is) at front; classical = rw (classical_at r, laid.quantum_registers_is, laid.classical_registers_is) at later })
