-- The words of a record from a place on: of a gate how many are before its qubits, how many are qubits, and both copied; and which are those of a gate and which of a barrier.
use Prim.Native.Nat.{ℕ, ◌+◌, ◌*◌, ◌≤◌}
use native.Mathlib.Omega.{arith}
use mathlib.Core.Path.{◌≡◌, sym, ap, ap₂, ◌∙◌}
use mathlib.Core.Bool.{Bool, true, false, cond}
use mathlib.Core.List.{List, ◌++◌, map}
use lib.Dec.{eqb}
use lib.ListN.{length, get_or, take, drop, length-drop, length-append, length-map}
use lib.Seq.{sets, length-take-le}
use borrow.Author.Tests.{eq-eqb, ne_eqb}
use Rattle.model.proofs.SetsLaws.{put_more}
use Rattle.copy.proofs.BodyKeptLaws.{part_stays}
use Rattle.copy.specs.CopiedRecord.{WordsPut, words_before_qubits, qubit_count, gate_length, renamed_gate, barrier_length, renamed_barrier, body_record_length, renamed_words}

module _ (out : List ℕ) (from : ℕ) where
  pub some_words : 1 ≤ words_before_qubits out from
  unfolding words_before_qubits
  some_words = go (eqb (get_or out from 0) 1) (eqb (get_or out from 0) 2)
    where
      go : (b c : Bool) → 1 ≤ cond b 13 (cond c 1 (4 + 4 * get_or out (from + 2) 0))
      go true c = omega arith
      go false true = omega arith
      go false false = omega arith

  module _ (e : get_or out from 0 ≡ 1) where
    pub fixed-U : 13 ≡ words_before_qubits out from
    unfolding words_before_qubits
    fixed-U = sym (ap (λ b. cond b 13 (cond (eqb (get_or out from 0) 2) 1 (4 + 4 * get_or out (from + 2) 0))) (eq-eqb _ 1 e))

    pub count-U : 1 ≡ qubit_count out from
    unfolding qubit_count
    count-U = sym (ap (λ b. cond b 1 (cond (eqb (get_or out from 0) 2) 2 (get_or out (from + 3) 0))) (eq-eqb _ 1 e))

  module _ (d : ¬ (get_or out from 0 ≡ 1)) (e : get_or out from 0 ≡ 2) where
    pub fixed-CX : 1 ≡ words_before_qubits out from
    unfolding words_before_qubits
    fixed-CX = sym (ap₂ (λ b c. cond b 13 (cond c 1 (4 + 4 * get_or out (from + 2) 0))) (ne_eqb _ 1 d) (eq-eqb _ 2 e))

    pub count-CX : 2 ≡ qubit_count out from
    unfolding qubit_count
    count-CX = sym (ap₂ (λ b c. cond b 1 (cond c 2 (get_or out (from + 3) 0))) (ne_eqb _ 1 d) (eq-eqb _ 2 e))

  module _ (d : ¬ (get_or out from 0 ≡ 1)) (e : ¬ (get_or out from 0 ≡ 2)) where
    pub fixed_opaque : 4 + 4 * get_or out (from + 2) 0 ≡ words_before_qubits out from
    unfolding words_before_qubits
    fixed_opaque = sym (ap₂ (λ b c. cond b 13 (cond c 1 (4 + 4 * get_or out (from + 2) 0))) (ne_eqb _ 1 d) (ne_eqb _ 2 e))

    pub count_opaque : get_or out (from + 3) 0 ≡ qubit_count out from
    unfolding qubit_count
    count_opaque = sym (ap₂ (λ b c. cond b 1 (cond c 2 (get_or out (from + 3) 0))) (ne_eqb _ 1 d) (ne_eqb _ 2 e))

-- the two parts, one after the other
pub both_parts : (r : ℕ → ℕ) (out out' out'' : List ℕ) (from to fixed count : ℕ) → fixed ≡ words_before_qubits out from → count ≡ qubit_count out from
    → from + gate_length out from ≤ to → to + gate_length out from ≤ length out
    → out' ≡ sets out to (take fixed (drop from out)) → out'' ≡ sets out' (to + fixed) (map r (take count (drop (from + fixed) out')))
    → WordsPut out to (renamed_gate r out from) (fixed + count) out''
both_parts r out out' out'' from to fixed count f c before fits e d =
    let front = take fixed (drop from out) in
    let back = map r (take count (drop (from + fixed) out)) in
    let front_long : length front ≡ fixed = length-take-le fixed (drop from out) (simp length-drop (omega arith)) in
    let back_long : length back ≡ count = length-map (take count (drop (from + fixed) out)) r ∙ length-take-le count (drop (from + fixed) out) (simp length-drop (omega arith)) in
    let words : front ++ back ≡ renamed_gate r out from = ap₂ (λ a b. take a (drop from out) ++ map r (take b (drop (from + a) out))) f c in
    record {
      counted = sym (ap length (sym words) ∙ length-append front back ∙ ap₂ ◌+◌ front_long back_long);
      contents =
          put_more out to (to + fixed) front back (omega arith) e
          (d ∙ ap (λ l. sets out' (to + fixed) (map r l)) (ap (λ l. take count (drop (from + fixed) l)) e ∙ part_stays (from + fixed) count to front out (omega arith)))
          ∙ ap (sets out to) words;
    }

-- ---- a record by its kind

module _ (out : List ℕ) (from : ℕ) where
  module _ (e : get_or out from 0 ≡ 4) where
    pub length_barrier : body_record_length out from ≡ barrier_length out from
    unfolding body_record_length
    length_barrier = ap (λ b. cond b (barrier_length out from) (gate_length out from)) (eq-eqb _ 4 e)

    pub words_barrier : (r : ℕ → ℕ) → renamed_words r out from ≡ renamed_barrier r out from
    unfolding renamed_words
    words_barrier r = ap (λ b. cond b (renamed_barrier r out from) (renamed_gate r out from)) (eq-eqb _ 4 e)

  module _ (e : ¬ (get_or out from 0 ≡ 4)) where
    pub length_gate : body_record_length out from ≡ gate_length out from
    unfolding body_record_length
    length_gate = ap (λ b. cond b (barrier_length out from) (gate_length out from)) (ne_eqb _ 4 e)

    pub words_gate : (r : ℕ → ℕ) → renamed_words r out from ≡ renamed_gate r out from
    unfolding renamed_words
    words_gate r = ap (λ b. cond b (renamed_barrier r out from) (renamed_gate r out from)) (ne_eqb _ 4 e)

  pub record_some : 1 ≤ body_record_length out from
  unfolding body_record_length
  record_some = go (eqb (get_or out from 0) 4)
    where
      go : (b : Bool) → 1 ≤ cond b (barrier_length out from) (gate_length out from)
      go true = omega arith
      go false = omega (arith, some_words out from)
