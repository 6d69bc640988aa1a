-- Where each step of a run comes from: a frame that the run reaches, and a statement that runs in it. This holds of every image.
use Prim.Native.Nat.{ℕ, zero, suc, ◌-◌, ◌<◌}
use native.Mathlib.Omega.{arith}
use mathlib.Core.Path.{◌≡◌, refl}
use mathlib.Core.Bool.{Bool, true, false, cond}
use mathlib.Core.List.{List, [], ◌∷◌, map, Memᴰ}
use mathlib.Core.Option.{Option, none, some}
use lib.Dec.{eqb}
use lib.ListN.{get_or}
use Rattle.value.specs.declared.Value.{Value}
use Rattle.model.specs.Lists.{range, largest}
use Rattle.model.specs.Image.{Statement, Gate, Conditional, statement, argument_at, parameter, gate_parameters, gate_arguments, gate_body, first_bit, classical_size, main_statements, argument_size, classical_argument_size, rounds, scope_statements}
use Rattle.model.specs.Evaluate.{zero_value}
use Rattle.model.specs.Records.{Record}
use Rattle.model.specs.Steps.{Refusal, OverlappingRegs, Step, write, enter, refuse, Frame, main_frame, Values, have, lack, given, in_rounds, overlap, qubit_in, bit_in, barrier_holds, parameter_values, with_values, write_u, write_cx, distinctly, write_opaque, write_measure, write_reset, push_frame, open_gate, visit_gate, visit_plain, visit_conditional, visit_statement, visit_body, opening, head_record, steps}
use Rattle.model.proofs.All.{All-append, All-flat, All-range, All-members}
use Rattle.model.specs.All.{All, nil, cons}

module _ (image : List ℕ) where
  -- statement s, which says x, runs in a scope: as one of its statements, or as what an if among them holds
  pub data Runs (scope s : ℕ) (x : Statement) : Type 0 where
    itself : Memᴰ s (scope_statements image scope) → statement image s ≡ x → Runs scope s x
    held : {o r v : ℕ} → Memᴰ o (scope_statements image scope) → statement image o ≡ Conditional r v s → statement image s ≡ x → Runs scope s x

  -- round i of a call of gate g, with its parameters' values
  pub record Call (frame : Frame) (s g p a : ℕ) (xs : List Value) (i : ℕ) : Type 0 where
    pub runs : Runs frame.scope s (Gate g p a)
    pub evaluated : parameter_values image frame.values (map (parameter image) (range p (gate_parameters image g))) ≡ have xs
    pub round : i < rounds image frame.scope (range a (gate_arguments image g))

  -- the frame that it pushes
  abbrev pub called_frame : Frame → ℕ → ℕ → ℕ → List Value → ℕ → Frame
  called_frame frame s g a xs i = push_frame image frame s g (range a (gate_arguments image g)) xs i

  -- the records that statements write in their own frame
  pub data Writes (frame : Frame) : Record → Type 0 where
    writes-U : {s theta phi lambda q : ℕ} {xs : List Value} {i : ℕ} → Runs frame.scope s (Statement.U theta phi lambda q)
        → parameter_values image frame.values (theta ∷ phi ∷ lambda ∷ []) ≡ have xs → i < rounds image frame.scope (q ∷ [])
        → Writes frame (Record.U (get_or xs 0 zero_value) (get_or xs 1 zero_value) (get_or xs 2 zero_value) (qubit_in image frame i q))
    writes-CX : {s a b i : ℕ} → Runs frame.scope s (Statement.CX a b) → i < rounds image frame.scope (a ∷ b ∷ [])
        → eqb (qubit_in image frame i a) (qubit_in image frame i b) ≡ false → Writes frame (Record.CX (qubit_in image frame i a) (qubit_in image frame i b))
    writes_opaque : {s g p a : ℕ} {xs : List Value} {i : ℕ} → Call frame s g p a xs i → eqb (gate_body image g) 0 ≡ true
        → overlap (qubit_in image frame i) [] (range a (gate_arguments image g)) ≡ none → Writes frame (Record.Opaque g xs (map (qubit_in image frame i) (range a (gate_arguments image g))))
    writes_barrier : {s a n : ℕ} → Runs frame.scope s (Statement.Barrier a n) → Writes frame (Record.Barrier (barrier_holds image frame a n))
    writes_measure : {s q c i : ℕ} → Runs frame.scope s (Statement.Measure q c) → i < largest (argument_size image frame.scope q ∷ classical_argument_size image c ∷ [])
        → Writes frame (Record.Measure (qubit_in image frame i q) (bit_in image i c))
    writes_reset : {s q i : ℕ} → Runs frame.scope s (Statement.Reset q) → i < rounds image frame.scope (q ∷ []) → Writes frame (Record.Reset (qubit_in image frame i q))
    writes_start : {s r v t : ℕ} → Memᴰ s (scope_statements image frame.scope) → statement image s ≡ Conditional r v t
        → Writes frame (Record.ConditionalStart (first_bit image r) (classical_size image r) v)
    writes_end : Writes frame Record.ConditionalEnd

module _ (image : List ℕ) (depth : ℕ) where
  -- a frame whose statements run, with how many levels of bodies may be opened below it
  pub data Reached : ℕ → Frame → Type 0 where
    main : Reached (depth - 1) main_frame
    called : {n : ℕ} {frame : Frame} {s g p a : ℕ} {xs : List Value} {i : ℕ} → Reached (suc n) frame → Call image frame s g p a xs i
        → Reached n (called_frame image frame s g a xs i)

  -- what a step comes from
  pub data Origin : Step → Type 0 where
    head : Origin (write [] (head_record image))
    writes : {n : ℕ} {frame : Frame} {r : Record} → Reached n frame → Writes image frame r → Origin (write frame.trace r)
    -- a body that is not opened, for no level is left
    cuts : {frame : Frame} {s g p a : ℕ} {xs : List Value} {i : ℕ} → Reached 0 frame → Call image frame s g p a xs i → eqb (gate_body image g) 0 ≡ false
        → Origin (write (called_frame image frame s g a xs i).trace (Record.Opaque g [] (called_frame image frame s g a xs i).qubits))
    enters : {n : ℕ} {frame : Frame} {s g p a : ℕ} {xs : List Value} {i : ℕ} → Reached (suc n) frame → Call image frame s g p a xs i
        → Origin (enter (called_frame image frame s g a xs i).trace g)
    refuses : {n : ℕ} {frame : Frame} {x : Refusal} → Reached n frame → Origin (refuse frame.trace x)

  -- what is known of the bodies opened below
  abbrev Deeper : ℕ → Type 0
  Deeper zero = Unit {0}
  Deeper (suc n) = (frame : Frame) → Reached n frame → All Origin (visit_body image (opening image n) frame)

  rounds_from : (n : ℕ) (round : ℕ → List Step) → ((i : ℕ) → i < n → All Origin (round i)) → All Origin (in_rounds n round)
  unfolding in_rounds
  rounds_from n round h = All-flat round (All-range 0 n (λ i p q. h i (omega arith)))

  module _ (n : ℕ) (deeper : Deeper n) (frame : Frame) (reached : Reached n frame) where
    values_from : (es : List ℕ) (next : List Value → List Step) → ((xs : List Value) → parameter_values image frame.values es ≡ have xs → All Origin (next xs)) → All Origin (with_values image frame es next)
    unfolding with_values given
    values_from es next h = go (parameter_values image frame.values es) refl
      where
        go : (v : Values) → parameter_values image frame.values es ≡ v → All Origin (given frame.trace v next)
        go (have xs) e = h xs e
        go (lack x) e = cons (refuses reached) nil

    CX-from : (s a b i : ℕ) → Runs image frame.scope s (Statement.CX a b) → i < rounds image frame.scope (a ∷ b ∷ []) → All Origin (write_cx image frame a b i)
    unfolding write_cx
    CX-from s a b i h k = go (eqb (qubit_in image frame i a) (qubit_in image frame i b)) refl
      where
        go : (t : Bool) → eqb (qubit_in image frame i a) (qubit_in image frame i b) ≡ t
            → All Origin (cond t (refuse frame.trace (OverlappingRegs (argument_at image a) (argument_at image b)) ∷ []) (write frame.trace (Record.CX (qubit_in image frame i a) (qubit_in image frame i b)) ∷ []))
        go true e = cons (refuses reached) nil
        go false e = cons (writes reached (writes-CX h k e)) nil

    opaque_from : {s g p a : ℕ} {xs : List Value} {i : ℕ} → Call image frame s g p a xs i → eqb (gate_body image g) 0 ≡ true → All Origin (write_opaque image frame g (range a (gate_arguments image g)) xs i)
    unfolding write_opaque distinctly
    opaque_from {g} {a} {xs} {i} call e = go (overlap (qubit_in image frame i) [] (range a (gate_arguments image g))) refl
      where
        go : (o : Option (ℕ × ℕ)) → overlap (qubit_in image frame i) [] (range a (gate_arguments image g)) ≡ o
            → All Origin (distinctly image frame.trace o (Record.Opaque g xs (map (qubit_in image frame i) (range a (gate_arguments image g)))))
        go (some ab) d = cons (refuses reached) nil
        go none d = cons (writes reached (writes_opaque call e d)) nil

    gate_from : {s g p a : ℕ} {xs : List Value} {i : ℕ} → Call image frame s g p a xs i → All Origin (visit_gate image (opening image n) frame s g (range a (gate_arguments image g)) xs i)
    unfolding visit_gate open_gate opening
    gate_from {s} {g} {a} {xs} {i} call = go (eqb (gate_body image g) 0) refl
      where
        opened : (m : ℕ) → Deeper m → Reached m frame → eqb (gate_body image g) 0 ≡ false → All Origin (open_gate (opening image m) (called_frame image frame s g a xs i) g)
        opened zero d r e = cons (cuts r call e) nil
        opened (suc m) d r e = cons (enters r call) (d (called_frame image frame s g a xs i) (called r call))

        go : (b : Bool) → eqb (gate_body image g) 0 ≡ b
            → All Origin (cond b (write_opaque image frame g (range a (gate_arguments image g)) xs i) (open_gate (opening image n) (called_frame image frame s g a xs i) g))
        go true e = opaque_from call e
        go false e = opened n deeper reached e

    plain_from : (ifDoes : ℕ → ℕ → ℕ → List Step) (s : ℕ) (x : Statement) → Runs image frame.scope s x → ((r v t : ℕ) → x ≡ Conditional r v t → All Origin (ifDoes r v t))
        → All Origin (visit_plain image ifDoes (opening image n) frame s x)
    unfolding visit_plain write_u write_measure write_reset
    plain_from ifDoes s (Statement.U theta phi lambda q) h k = values_from _ _ λ xs e. rounds_from _ _ λ i l. cons (writes reached (writes-U h e l)) nil
    plain_from ifDoes s (Statement.CX a b) h k = rounds_from _ _ λ i l. CX-from s a b i h l
    plain_from ifDoes s (Gate g p a) h k = values_from _ _ λ xs e. rounds_from _ _ λ i l. gate_from (record { runs = h; evaluated = e; round = l })
    plain_from ifDoes s (Statement.Barrier a m) h k = cons (writes reached (writes_barrier h)) nil
    plain_from ifDoes s (Statement.Measure q c) h k = rounds_from _ _ λ i l. cons (writes reached (writes_measure h l)) nil
    plain_from ifDoes s (Statement.Reset q) h k = rounds_from _ _ λ i l. cons (writes reached (writes_reset h l)) nil
    plain_from ifDoes s (Conditional r v t) h k = k r v t refl
    plain_from ifDoes s Statement.Unknown h k = nil

    statement_from : (s : ℕ) → Memᴰ s (scope_statements image frame.scope) → All Origin (visit_statement image (opening image n) frame s)
    unfolding visit_statement visit_conditional
    statement_from s m = plain_from (visit_conditional image (opening image n) frame) s (statement image s) (itself m refl) λ r v t e.
        cons (writes reached (writes_start m e)) (All-append (plain_from (λ r v t. []) t (statement image t) (held m e refl) (λ r v t d. nil)) (cons (writes reached writes_end) nil))

    body_from : All Origin (visit_body image (opening image n) frame)
    unfolding visit_body
    body_from = All-flat (visit_statement image (opening image n) frame) (All-members _ statement_from)

  frames_from : (n : ℕ) (frame : Frame) → Reached n frame → All Origin (visit_body image (opening image n) frame)
  frames_from zero frame r = body_from zero tt frame r
  frames_from (suc n) frame r = body_from (suc n) (frames_from n) frame r

  pub origins : All Origin (steps image depth)
  unfolding steps
  origins = go (eqb (main_statements image) 0)
    where
      go : (b : Bool) → All Origin (cond b [] (write [] (head_record image) ∷ visit_body image (opening image (depth - 1)) main_frame))
      go true = nil
      go false = cons head (frames_from (depth - 1) main_frame main)
