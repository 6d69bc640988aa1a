-- Every record of an accepted program's run is declared and distinct, a barrier's qubits rise, and every trace has at most 256 words.
use Prim.Native.Nat.{ℕ, zero, suc, ◌+◌, ◌-◌, ◌*◌, ◌≤◌, ◌<◌}
use native.Mathlib.Nat.{not-suc-le-zero, suc-add, add-suc, add-zero, zero-add}
use native.Mathlib.Omega.{arith}
use mathlib.Core.Path.{◌≡◌, refl, sym, ap, ◌∙◌}
use mathlib.Core.Bool.{Bool, true, false, not, ◌||◌, cond}
use mathlib.Core.List.{List, [], ◌∷◌, ◌++◌, map, Memᴰ}
use mathlib.Core.Option.{Option, none, some}
use borrow.Author.Tests.{eqb-true, eqb-false}
use lib.Dec.{T, eqb, leb→le, ltb→lt, lt→ltb, le→leb, eqb→eq}
use lib.ListN.{length, get_or, length-append, length-map}
use Rattle.value.specs.declared.Value.{Value}
use Rattle.model.specs.Lists.{range, sum, largest, all}
use Rattle.model.specs.Image.{Statement, statement, argument_register, argument_index, gate_arguments, gates, quantum_registers, classical_registers, first_qubit, first_bit, quantum_size, classical_size, qubits, bits, argument_size, classical_argument_size, rounds, scope_statements}
use Rattle.model.specs.Check.{matching, argument_ok, classical_argument_ok, downward, plain_flaw, conditional_ok, conditional_flaw, flaw}
use Rattle.model.specs.Records.{Record}
use Rattle.model.specs.Steps.{Step, write, enter, refuse, Frame, holder, clash, overlap, offsets_of, offsets, resolve_qreg, qubit_in, bit_in, argument_qubits, push_frame, head_record, steps}
use Rattle.model.specs.Claims.{in_register, differ, is_qubit}
use Rattle.model.proofs.All.{head-All, tail-All, test, All-every, all-All, All-all, All-weaken, All-append, All-front, All-back, All-getD, All-members, members-All, All-flat, All-of, of-All, All-range}
use Rattle.model.specs.All.{All, nil, cons}
use Rattle.model.proofs.Lengths.{length_range}
use Rattle.model.proofs.BarrierLaws.{rising_all, barrier_claims}
use Rattle.model.proofs.Accepted.{passes}
use Rattle.model.specs.Accepted.{Accepted, Declared, FrameOk}
use Rattle.model.proofs.TypedRecords.{declared_record, distinct_record, rises_record}
use Rattle.model.proofs.Origins.{Runs, itself, held, Call, called_frame, Writes, writes-U, writes-CX, writes_opaque, writes_barrier, writes_measure, writes_reset, writes_start, writes_end, Reached, main, called, Origin, head, writes, cuts, enters, refuses, origins}

-- ---- without an overlap the arguments' qubits differ

unequal : (b : Bool) → b ≡ false → T (not b)
unequal b e = rw e tt

refuted : (b : Bool) → T (not b) → b ≡ false
refuted true t = absurd t
refuted false t = refl

no_holder : (q : ℕ → ℕ) (x : ℕ) (l : List ℕ) → holder q x l ≡ none → All (λ b. T (not (eqb x (q b)))) l
unfolding holder
no_holder q x [] e = nil
no_holder q x (b ∷ l) e = go (eqb x (q b)) refl e (λ d. no_holder q x l d)
  where
    go : (t : Bool) → eqb x (q b) ≡ t → cond t (some b) (holder q x l) ≡ none → (holder q x l ≡ none → All (λ b. T (not (eqb x (q b)))) l)
        → All (λ b. T (not (eqb x (q b)))) (b ∷ l)
    go true p r later = absurd (let z : ◌≡◌ {A = ℕ} 0 1 = cc in omega arith)
    go false p r later = cons (unequal _ p) (later r)

-- each of l differs from the qubit of b
abbrev Apart : (ℕ → ℕ) → List ℕ → ℕ → Type 0
Apart q l b = All (λ a. T (not (eqb (q a) (q b)))) l

pub no_overlap : (q : ℕ → ℕ) (before l : List ℕ) → overlap q before l ≡ none → T (differ (map q l)) × All (Apart q l) before
unfolding overlap clash differ
no_overlap q before [] e = (tt, All-members before (λ b m. nil))
no_overlap q before (a ∷ l) e = go (holder q (q a) before) refl e (λ d. no_overlap q (before ++ a ∷ []) l d)
  where
    go : (o : Option ℕ) → holder q (q a) before ≡ o → clash a o (overlap q (before ++ a ∷ []) l) ≡ none
        → (overlap q (before ++ a ∷ []) l ≡ none → T (differ (map q l)) × All (Apart q l) (before ++ a ∷ []))
        → T (differ (map q (a ∷ l))) × All (Apart q (a ∷ l)) before
    go (some b) h r later = absurd (let z : ◌≡◌ {A = ℕ} 0 1 = cc in omega arith)
    go none h r later =
        let x = later r in (
          All-every (cons (All-all _ (All-of q (head-All (All-back before (a ∷ []) x.1)))) (cons x.0 nil)),
          All-members before λ b m. cons (members-All (no_holder q (q a) before h) b m) (members-All (All-front before (a ∷ []) x.1) b m),
        )

-- where the arguments' qubits differ there is no overlap
apart_holder : (q : ℕ → ℕ) (x : ℕ) (l : List ℕ) → All (λ b. T (not (eqb x (q b)))) l → holder q x l ≡ none
unfolding holder
apart_holder q x [] h = refl
apart_holder q x (b ∷ l) h = rw (refuted (eqb x (q b)) (head-All h)) (apart_holder q x l (tail-All h))

pub differ_apart : (q : ℕ → ℕ) (before l : List ℕ) → T (differ (map q l)) → All (Apart q l) before → overlap q before l ≡ none
unfolding overlap clash differ
differ_apart q before [] d h = refl
differ_apart q before (a ∷ l) d h =
    rw (apart_holder q (q a) before (All-weaken (λ b k. head-All k) h))
    (differ_apart q (before ++ a ∷ []) l (test 1 _ d) (All-append (All-weaken (λ b k. tail-All k) h) (cons (of-All q l (all-All _ (map q l) (test 0 _ d))) nil)))

-- ---- registers

offsets_in : (sizes : ℕ → ℕ) (n : ℕ) → T (all (in_register sizes n) (offsets sizes n))
unfolding offsets offsets_of in_register
offsets_in sizes n =
    All-all _ (All-flat (offsets_of sizes)
    (All-range 0 n (λ r p q. All-of _ (All-range 0 (sizes r) (λ o u v. All-every (cons (lt→ltb r n (omega arith)) (cons (lt→ltb o (sizes r) (omega arith)) nil)))))))

-- the first i of n sizes and the next one come to no more than all of them
pub sum_below : (f : ℕ → ℕ) (a n i : ℕ) → i < n → sum (map f (range a i)) + f (a + i) ≤ sum (map f (range a n))
unfolding sum range
sum_below f a zero i h = absurd (not-suc-le-zero h)
sum_below f a (suc n) zero h = omega (arith, ap f (add-zero a))
sum_below f a (suc n) (suc i) h = omega (arith, sum_below f (suc a) n i (omega arith), ap f (add-suc a i ∙ sym (suc-add a i)))

-- the qubit or bit of an argument: register r, index j (0 the whole), in round i, which is below the argument's size unless that is 1
index_below : (sizes : ℕ → ℕ) (n r j i : ℕ) → r < n → 1 ≤ sizes r → j ≤ sizes r → (¬ (cond (eqb j 0) (sizes r) 1 ≡ 1) → i < cond (eqb j 0) (sizes r) 1)
    → sum (map sizes (range 0 r)) + (j - 1) + cond (eqb (cond (eqb j 0) (sizes r) 1) 1) 0 i < sum (map sizes (range 0 n))
index_below sizes n r j i h k l m = omega (arith, sum_below sizes 0 n r h, ap sizes (zero-add r), go (eqb j 0) refl m)
  where
    advances : (x : ℕ) (b : Bool) → eqb x 1 ≡ b → 1 ≤ x → (¬ (x ≡ 1) → i < x) → cond b 0 i < x
    advances x true e k m = k
    advances x false e k m = m (eqb-false x 1 e)

    go : (b : Bool) → eqb j 0 ≡ b → (¬ (cond b (sizes r) 1 ≡ 1) → i < cond b (sizes r) 1) → j - 1 + cond (eqb (cond b (sizes r) 1) 1) 0 i < sizes r
    go true e m = omega (arith, eqb-true j 0 e, advances (sizes r) (eqb (sizes r) 1) refl k m)
    go false e m = let p : ¬ (j ≡ 0) = eqb-false j 0 e in omega arith

-- a round below the largest of sizes that match is below each but 1
pub matched : (x n i : ℕ) → T (eqb x 1 || eqb x n) → i < n → ¬ (x ≡ 1) → i < x
matched x n i t h ne = go (eqb x 1) refl t
  where
    go : (b : Bool) → eqb x 1 ≡ b → T (b || eqb x n) → i < x
    go true e t = absurd (ne (eqb-true _ _ e))
    go false e t = omega (arith, eqb→eq x n t)

guarded : (b : Bool) (m n : ℕ) → cond b m (suc n) ≡ 0 → T b × (m ≡ 0)
guarded true m n e = (tt, e)
guarded false m n e = absurd (omega arith)

module _ (w : List ℕ) (acc : Accepted w) where
  -- ---- frames

  abbrev pub Ready : Frame → Type 0
  Ready frame = FrameOk w frame.scope frame.trace frame.qubits

  in_scope : (scope : ℕ) (t qs : List ℕ) → FrameOk w scope t qs → (scope ≤ gates w) × (length t ≤ 256)
  in_scope zero t qs ok = omega arith
  in_scope (suc g) t qs ok = omega (arith, acc.few_gates)

  -- ---- statements

  -- the check found nothing wrong with a scope's statement
  checked : {scope s : ℕ} {x : Statement} → scope ≤ gates w → Memᴰ s (scope_statements w scope) → statement w s ≡ x → plain_flaw w (conditional_flaw w scope s) scope s x ≡ 0
  unfolding flaw
  checked {scope} {s} h m e = rw (← e) (members-All (acc.flawless scope h) s m)

  -- nothing is wrong with a statement that runs, whatever would be wrong with an if in its place
  flawless : {scope s : ℕ} {x : Statement} → scope ≤ gates w → Runs w scope s x → (ifFlaw : ℕ → ℕ → ℕ → ℕ) × (plain_flaw w ifFlaw scope s x ≡ 0)
  unfolding plain_flaw conditional_flaw
  flawless {scope} {s} h (itself m e) = (conditional_flaw w scope s, checked h m e)
  flawless {scope} {s} h (held {o} {r} m d e) = ((λ r v t. 4), rw (← e) (guarded (conditional_ok w scope o r s) _ 3 (checked h m d)).1)

  -- ---- arguments

  pub argument : (scope : ℕ) (t qs : List ℕ) (a i : ℕ) → FrameOk w scope t qs → T (argument_ok w scope a) → (¬ (argument_size w scope a ≡ 1) → i < argument_size w scope a)
      → resolve_qreg w scope qs a + cond (eqb (argument_size w scope a) 1) 0 i < qubits w
  unfolding resolve_qreg argument_size argument_ok first_qubit
  argument zero t qs a i ok h k =
      let r = ltb→lt _ _ (test 0 _ h) in
      index_below (quantum_size w) (quantum_registers w) (argument_register w a) (argument_index w a) i r (acc.qsizes _ r) (leb→le _ _ (test 1 _ h)) k
  argument (suc g) t qs a i ok h k =
      let p : argument_register w a < gate_arguments w g = ltb→lt _ _ (test 0 _ h) in
      let q : get_or qs (argument_register w a) 0 < qubits w = ltb→lt _ _ (All-getD {P = λ q. T (is_qubit w q)} (argument_register w a) 0 (omega arith) ok.3) in
      omega arith

  pub bit_below : (c i : ℕ) → T (classical_argument_ok w c) → (¬ (classical_argument_size w c ≡ 1) → i < classical_argument_size w c) → bit_in w i c < bits w
  unfolding bit_in classical_argument_size classical_argument_ok first_bit
  bit_below c i h k =
      let r = ltb→lt _ _ (test 0 _ h) in
      index_below (classical_size w) (classical_registers w) (argument_register w c) (argument_index w c) i r (acc.csizes _ r) (leb→le _ _ (test 1 _ h)) k

  pub register_below : (r : ℕ) → r < classical_registers w → first_bit w r + classical_size w r ≤ bits w
  unfolding first_bit
  register_below r h = omega (arith, sum_below (classical_size w) 0 (classical_registers w) r h, ap (classical_size w) (zero-add r))

  opaque_declared : (g : ℕ) (xs : List Value) (qs : List ℕ) → g < gates w → Declared w qs → T (declared_record w (Record.Opaque g xs qs))
  unfolding declared_record
  opaque_declared g xs qs h k = All-every (cons (lt→ltb _ _ h) (cons (All-all (is_qubit w) k) nil))

  module _ (frame : Frame) (ready : Ready frame) where
    bounds : (frame.scope ≤ gates w) × (length frame.trace ≤ 256)
    bounds = in_scope frame.scope frame.trace frame.qubits ready

    pub qubit_below : (a i : ℕ) → T (argument_ok w frame.scope a) → (¬ (argument_size w frame.scope a ≡ 1) → i < argument_size w frame.scope a) → T (is_qubit w (qubit_in w frame i a))
    unfolding qubit_in
    qubit_below a i h k = lt→ltb _ _ (argument frame.scope frame.trace frame.qubits a i ready h k)

    -- one argument
    pub one_below : (a i : ℕ) → T (argument_ok w frame.scope a) → i < rounds w frame.scope (a ∷ []) → T (is_qubit w (qubit_in w frame i a))
    unfolding rounds largest
    one_below a i h k = qubit_below a i h (λ n. omega arith)

    -- arguments whose sizes match
    pub all_below : (i : ℕ) (al : List ℕ) → All (λ a. T (argument_ok w frame.scope a)) al → T (matching (map (argument_size w frame.scope) al))
        → i < rounds w frame.scope al → Declared w (map (qubit_in w frame i) al)
    unfolding rounds matching
    all_below i al h m k =
        let sizes = of-All (argument_size w frame.scope) al (all-All _ _ m) in
        All-of (qubit_in w frame i) (All-members al λ a n. qubit_below a i (members-All h a n) (matched _ _ i (members-All sizes a n) k))

    -- a whole argument
    pub whole_below : (a : ℕ) → T (argument_ok w frame.scope a) → Declared w (argument_qubits w frame a)
    unfolding argument_qubits
    whole_below a h = All-of (λ i. qubit_in w frame i a) (All-range 0 (argument_size w frame.scope a) (λ i x y. qubit_below a i h (λ n. omega arith)))

    sound : {s : ℕ} {x : Statement} → Runs w frame.scope s x → (ifFlaw : ℕ → ℕ → ℕ → ℕ) × (plain_flaw w ifFlaw frame.scope s x ≡ 0)
    sound h = flawless bounds.0 h

    call_below : {s g p a : ℕ} {xs : List Value} {i : ℕ} → Call w frame s g p a xs i
        → (g < gates w) × T (downward frame.scope g) × Declared w (map (qubit_in w frame i) (range a (gate_arguments w g)))
    unfolding plain_flaw
    call_below {g} {a} {i} c =
        let e = (sound c.runs).1 in
        (ltb→lt _ _ (test 1 _ (passes 0 _ e tt)), passes 1 _ e tt, all_below i (range a (gate_arguments w g)) (all-All _ _ (passes 3 _ e tt)) (passes 4 _ e tt) c.round)

    -- ---- records

    measure_declared : (q c i : ℕ) → T (argument_ok w frame.scope q) → T (classical_argument_ok w c) → T (matching (argument_size w frame.scope q ∷ classical_argument_size w c ∷ []))
        → i < largest (argument_size w frame.scope q ∷ classical_argument_size w c ∷ []) → T (declared_record w (Record.Measure (qubit_in w frame i q) (bit_in w i c)))
    unfolding matching declared_record
    measure_declared q c i h j m k =
        let p = all-All _ _ m in
        All-every (cons (qubit_below q i h (matched _ _ i (head-All p) k)) (cons (lt→ltb _ _ (bit_below c i j (matched _ _ i (head-All (tail-All p)) k))) nil))

    written_good : {r : Record} → Writes w frame r → T (declared_record w r) × T (distinct_record w r) × T (rises_record r)
    unfolding declared_record distinct_record rises_record plain_flaw conditional_flaw conditional_ok
    written_good (writes-U {q} {i} h e l) = (one_below q i (passes 2 _ (sound h).1 tt) l, tt, tt)
    written_good (writes-CX {a} {b} {i} h l d) =
        let e = (sound h).1 in
        let p = all_below i (a ∷ b ∷ []) (cons (test 0 _ (passes 1 _ e tt)) (cons (test 1 _ (passes 1 _ e tt)) nil)) (passes 2 _ e tt) l in
        (All-every (cons (head-All p) (cons (head-All (tail-All p)) nil)), unequal _ d, tt)
    written_good (writes_opaque {g} {xs} {i} c b d) =
        let k = call_below c in
        (opaque_declared g xs _ k.0 k.2, rw b (no_overlap (qubit_in w frame i) [] _ d).0, tt)
    written_good (writes_barrier {a} {n} h) =
        (All-all (is_qubit w) (rising_all (All-flat (argument_qubits w frame) (All-weaken whole_below (all-All _ (range a n) (passes 1 _ (sound h).1 tt))))), tt, (barrier_claims w frame a n).rise)
    written_good (writes_measure {q} {c} {i} h l) =
        let e = (sound h).1 in
        (measure_declared q c i (test 0 _ (passes 1 _ e tt)) (test 1 _ (passes 1 _ e tt)) (passes 2 _ e tt) l, tt, tt)
    written_good (writes_reset {q} {i} h l) = (one_below q i (passes 1 _ (sound h).1 tt) l, tt, tt)
    written_good (writes_start {s} {r} {t} m e) =
        (le→leb _ _ (register_below r (ltb→lt _ _ (test 2 _ (guarded (conditional_ok w frame.scope s r t) _ 3 (checked bounds.0 m e)).0))), tt, tt)
    written_good writes_end = (tt, tt, tt)

    called_ready : {s g p a : ℕ} {xs : List Value} {i : ℕ} → Call w frame s g p a xs i → Ready (called_frame w frame s g a xs i)
    unfolding push_frame downward
    called_ready {g} {a} {i} c =
        let k = call_below c in
        (k.0, rw length-append (shorter frame.scope ready k.0 k.1), length-map (range a (gate_arguments w g)) (qubit_in w frame i) ∙ length_range a (gate_arguments w g), k.2)
      where
        shorter : (scope : ℕ) → FrameOk w scope frame.trace frame.qubits → g < gates w → T (downward scope g) → length frame.trace + 2 ≤ 2 * (gates w - g)
        shorter zero ok h d = omega arith
        shorter (suc f) ok h d = let q : g < f = ltb→lt g f d in omega arith

  -- ---- steps

  abbrev pub Good : Step → Type 0
  Good (write t r) = T (declared_record w r) × T (distinct_record w r) × T (rises_record r) × (length t ≤ 256)
  Good (enter t g) = length t ≤ 256
  Good (refuse t x) = length t ≤ 256

  reached_ready : {depth n : ℕ} {frame : Frame} → Reached w depth n frame → Ready frame
  reached_ready main = refl
  reached_ready (called {frame} r c) = called_ready frame (reached_ready r) c

  head_good : Good (write [] (head_record w))
  unfolding head_record declared_record distinct_record rises_record
  head_good = (All-every (cons (offsets_in (quantum_size w) (quantum_registers w)) (cons (offsets_in (classical_size w) (classical_registers w)) nil)), tt, tt, omega arith)

  step_good : {depth : ℕ} (s : Step) → Origin w depth s → Good s
  unfolding distinct_record rises_record push_frame
  step_good s head = head_good
  step_good s (writes {frame} r h) = let g = written_good frame (reached_ready r) h in (g.0, g.1, g.2, (bounds frame (reached_ready r)).1)
  step_good s (cuts {frame} {s = o} {g} {a} {xs} {i} r c e) =
      let k = call_below frame (reached_ready r) c in
      (opaque_declared g [] _ k.0 k.2, rw e tt, tt, (bounds (called_frame w frame o g a xs i) (called_ready frame (reached_ready r) c)).1)
  step_good s (enters {frame} {s = o} {g} {a} {xs} {i} r c) = (bounds (called_frame w frame o g a xs i) (called_ready frame (reached_ready r) c)).1
  step_good s (refuses {frame} r) = (bounds frame (reached_ready r)).1

  pub steps_good : (depth : ℕ) → All Good (steps w depth)
  steps_good depth = All-weaken step_good (origins w depth)
