-- The steps of a run come to what the tally says, for any weight of records and of body entries.
use Prim.Native.Nat.{ℕ, zero, suc, ◌+◌, ◌-◌, ◌*◌, ◌≤◌, zero-le}
use native.Mathlib.Nat.{le_refl, le_of_eq, add-le-add, add-zero, zero-add, suc-mul, zero-mul}
use native.Mathlib.Omega.{arith}
use mathlib.Core.Path.{◌≡◌, refl, sym, ap₂, ◌∙◌, subst}
use mathlib.Core.Bool.{Bool, true, false, cond}
use mathlib.Core.List.{List, [], ◌∷◌, ◌++◌, map, flat_map}
use mathlib.Core.Option.{Option, none, some}
use lib.Dec.{T, eqb}
use lib.ListN.{length, length-append, length-map}
use Rattle.value.specs.declared.Value.{Value}
use Rattle.model.specs.Lists.{range, sum}
use Rattle.model.specs.Image.{Statement, Gate, Conditional, statement, parameter, gate_parameters, gate_arguments, gate_body, first_bit, classical_size, main_statements, scope_statements}
use Rattle.model.specs.Records.{Record, kind, angle_words, fields, encode}
use Rattle.model.specs.Steps.{Refusal, Step, write, enter, refuse, Frame, Opening, Values, have, lack, given, in_rounds, overlap, qubit_in, argument_qubits, parameter_values, with_values, write_u, write_cx, distinctly, write_opaque, write_measure, write_reset, push_frame, open_gate, visit_gate, visit_plain, visit_conditional, visit_statement, visit_body, opening, head_record, steps, main_frame}
use Rattle.model.specs.Tally.{open_gate_tally, gate_tally, plain_tally, conditional_tally, statement_tally, body_tally, opening_tally, weight_tally}
use Rattle.model.proofs.Lengths.{length_range, length_words, length_rising, length_qubits, length_values, length_head}

-- ---- what steps come to: f kind words for a record, e for a body entry

unfoldable pub weighs : (ℕ → ℕ → ℕ) → ℕ → List Step → ℕ
weighs f e [] = 0
weighs f e (write t r ∷ ss) = f (kind r) (length (encode r)) + weighs f e ss
weighs f e (enter t g ∷ ss) = e + weighs f e ss
weighs f e (refuse t x ∷ ss) = weighs f e ss

-- whether no step refuses
unfoldable pub clean : List Step → Bool
clean [] = true
clean (write t r ∷ ss) = clean ss
clean (enter t g ∷ ss) = clean ss
clean (refuse t x ∷ ss) = false

-- ---- steps that come to n at most, and to n exactly where none refuses and f goes by the kind alone

module _ (f : ℕ → ℕ → ℕ) (e : ℕ) where
  pub record Tallied (ss : List Step) (n : ℕ) : Type 0 where
    pub most : weighs f e ss ≤ n
    pub exactly : ((k a b : ℕ) → f k a ≡ f k b) → T (clean ss) → weighs f e ss ≡ n

  weighs_append : (s t : List Step) → weighs f e (s ++ t) ≡ weighs f e s + weighs f e t
  unfolding weighs
  weighs_append [] t = sym (zero-add _)
  weighs_append (write tr r ∷ s) t = omega (arith, weighs_append s t)
  weighs_append (enter tr g ∷ s) t = omega (arith, weighs_append s t)
  weighs_append (refuse tr x ∷ s) t = weighs_append s t

  clean_append : (s t : List Step) → T (clean (s ++ t)) → T (clean s) × T (clean t)
  unfolding clean
  clean_append [] t c = (tt, c)
  clean_append (write tr r ∷ s) t c = clean_append s t c
  clean_append (enter tr g ∷ s) t c = clean_append s t c
  clean_append (refuse tr x ∷ s) t c = absurd c

  none_tallied : Tallied [] 0
  unfolding weighs
  none_tallied = record { most = zero-le; exactly = λ flat c. refl }

  append_tallied : (s t : List Step) (m n : ℕ) → Tallied s m → Tallied t n → Tallied (s ++ t) (m + n)
  append_tallied s t m n p q =
      record {
        most = rw weighs_append (add-le-add p.most q.most);
        exactly = λ flat c. let d = clean_append s t c in weighs_append s t ∙ ap₂ ◌+◌ (p.exactly flat d.0) (q.exactly flat d.1);
      }

  refuse_tallied : (t : List ℕ) (x : Refusal) (n : ℕ) → Tallied (refuse t x ∷ []) n
  unfolding weighs clean
  refuse_tallied t x n = record { most = zero-le; exactly = λ flat c. absurd c }

  enter_tallied : (t : List ℕ) (g : ℕ) → Tallied (enter t g ∷ []) e
  unfolding weighs clean
  enter_tallied t g = record { most = le_of_eq (add-zero e); exactly = λ flat c. add-zero e }

  -- n in every round
  rounds_tallied : (g : ℕ → List Step) (n : ℕ) → ((i : ℕ) → Tallied (g i) n) → (a k : ℕ) → Tallied (flat_map g (range a k)) (k * n)
  unfolding flat_map range
  rounds_tallied g n h a zero = subst (Tallied []) (sym (zero-mul n)) none_tallied
  rounds_tallied g n h a (suc k) =
      subst (Tallied (g a ++ flat_map g (range (suc a) k))) (omega (arith, suc-mul k n))
      (append_tallied (g a) (flat_map g (range (suc a) k)) n (k * n) (h a) (rounds_tallied g n h (suc a) k))

  in_rounds_lem : (g : ℕ → List Step) (n : ℕ) → ((i : ℕ) → Tallied (g i) n) → (k : ℕ) → Tallied (in_rounds k g) (k * n)
  unfolding in_rounds
  in_rounds_lem g n h k = rounds_tallied g n h 0 k

  -- one statement after another
  all_tallied : (g : ℕ → List Step) (n : ℕ → ℕ) → ((i : ℕ) → Tallied (g i) (n i)) → (l : List ℕ) → Tallied (flat_map g l) (sum (map n l))
  unfolding flat_map sum
  all_tallied g n h [] = none_tallied
  all_tallied g n h (x ∷ l) = append_tallied (g x) (flat_map g l) (n x) (sum (map n l)) (h x) (all_tallied g n h l)

  either_tallied : (b : Bool) {s t : List Step} {n : ℕ} → Tallied s n → Tallied t n → Tallied (cond b s t) n
  either_tallied true p q = p
  either_tallied false p q = q

  both_tallied : (b : Bool) {s t : List Step} {m n : ℕ} → Tallied s m → Tallied t n → Tallied (cond b s t) (cond b m n)
  both_tallied true p q = p
  both_tallied false p q = q

  -- ---- the same way for a run and for the tally, through a program's parts

  module _ (mono : (k a b : ℕ) → a ≤ b → f k a ≤ f k b) (w : List ℕ) where
    -- a record of at most n words
    write_tallied : (t : List ℕ) (r : Record) (n : ℕ) → length (encode r) ≤ n → Tallied (write t r ∷ []) (f (kind r) n)
    unfolding weighs clean
    write_tallied t r n h =
        record {
          most = rw add-zero (mono (kind r) (length (encode r)) n h);
          exactly = λ flat c. add-zero _ ∙ flat (kind r) (length (encode r)) n;
        }

    values_tallied : (fr : Frame) (es : List ℕ) (next : List Value → List Step) (n : ℕ)
        → ((xs : List Value) → length xs ≡ length es → Tallied (next xs) n) → Tallied (with_values w fr es next) n
    unfolding with_values given
    values_tallied fr es next n h = go (parameter_values w fr.values es) refl
      where
        go : (v : Values) → parameter_values w fr.values es ≡ v → Tallied (given fr.trace v next) n
        go (have xs) e = h xs (length_values w fr.values es xs e)
        go (lack r) e = refuse_tallied fr.trace r n

    u_tallied : (fr : Frame) (q : ℕ) (xs : List Value) (i : ℕ) → Tallied (write_u w fr q xs i) (f 1 14)
    unfolding write_u kind encode fields angle_words
    u_tallied fr q xs i = write_tallied _ (Record.U _ _ _ (qubit_in w fr i q)) 14 (le_refl 14)

    cx_tallied : (fr : Frame) (a b i : ℕ) → Tallied (write_cx w fr a b i) (f 2 3)
    unfolding write_cx kind encode fields
    cx_tallied fr a b i = either_tallied (eqb (qubit_in w fr i a) (qubit_in w fr i b)) (refuse_tallied _ _ _) (write_tallied _ _ 3 (le_refl 3))

    -- kind 3, of p angles and q qubits
    kind3_tallied : (t : List ℕ) (g : ℕ) (xs : List Value) (qs : List ℕ) (p q : ℕ) → length xs ≡ p → length qs ≡ q
        → Tallied (write t (Record.Opaque g xs qs) ∷ []) (f 3 (4 + 4 * p + q))
    unfolding kind encode fields
    kind3_tallied t g xs qs p q e d = write_tallied t (Record.Opaque g xs qs) (4 + 4 * p + q) (simp length-append (omega (arith, length_words xs)))

    opaque_tallied : (fr : Frame) (g : ℕ) (al : List ℕ) (xs : List Value) (p q : ℕ) → length xs ≡ p → length al ≡ q
        → (i : ℕ) → Tallied (write_opaque w fr g al xs i) (f 3 (4 + 4 * p + q))
    unfolding write_opaque distinctly
    opaque_tallied fr g al xs p q e d i = go (overlap (qubit_in w fr i) [] al)
      where
        go : (o : Option (ℕ × ℕ)) → Tallied (distinctly w fr.trace o (Record.Opaque g xs (map (qubit_in w fr i) al))) (f 3 (4 + 4 * p + q))
        go (some ab) = refuse_tallied _ _ _
        go none = kind3_tallied fr.trace g xs (map (qubit_in w fr i) al) p q e (length-map al (qubit_in w fr i) ∙ d)

    -- ways of opening a body, of the run and of the tally, that agree
    data Agree : Opening → Option (ℕ → ℕ) → Type 0 where
      shut : Agree none none
      opened : {b : Frame → List Step} {n : ℕ → ℕ} → ((fr : Frame) → Tallied (b fr) (n fr.scope)) → Agree (some b) (some n)

    call_tallied : {op : Opening} {ot : Option (ℕ → ℕ)} → Agree op ot → (fr : Frame) (s g : ℕ) (al : List ℕ) (xs : List Value)
        → length xs ≡ gate_parameters w g → length al ≡ gate_arguments w g → (i : ℕ) → Tallied (visit_gate w op fr s g al xs i) (gate_tally w f e ot g)
    unfolding visit_gate gate_tally push_frame open_gate open_gate_tally
    call_tallied shut fr s g al xs e d i =
        both_tallied (eqb (gate_body w g) 0) (opaque_tallied fr g al xs _ _ e d i)
        (kind3_tallied _ g [] (map (qubit_in w fr i) al) 0 (gate_arguments w g) refl (length-map al (qubit_in w fr i) ∙ d))
    call_tallied (opened h) fr s g al xs d₁ d₂ i =
        both_tallied (eqb (gate_body w g) 0) (opaque_tallied fr g al xs _ _ d₁ d₂ i)
        (append_tallied (enter _ g ∷ []) _ e _ (enter_tallied _ g) (h (push_frame w fr s g al xs i)))

    plain_tallied : {op : Opening} {ot : Option (ℕ → ℕ)} → Agree op ot → (fr : Frame) (c : ℕ → ℕ → ℕ → List Step) (ct : ℕ → ℕ)
        → ((r v t : ℕ) → Tallied (c r v t) (ct t)) → (s : ℕ) (x : Statement) → Tallied (visit_plain w c op fr s x) (plain_tally w f e ct ot fr.scope x)
    unfolding visit_plain plain_tally write_measure write_reset kind encode fields
    plain_tallied h fr c ct k s (Statement.U θ φ lam q) = values_tallied fr _ _ _ λ xs e. in_rounds_lem _ _ (u_tallied fr q xs) _
    plain_tallied h fr c ct k s (Statement.CX a b) = in_rounds_lem _ _ (cx_tallied fr a b) _
    plain_tallied h fr c ct k s (Gate g p a) =
        values_tallied fr _ _ _ λ xs e.
        in_rounds_lem _ _ (call_tallied h fr s g (range a (gate_arguments w g)) xs (e ∙ length-map (range p (gate_parameters w g)) (parameter w) ∙ length_range p _) (length_range a _)) _
    plain_tallied h fr c ct k s (Statement.Barrier a n) =
        write_tallied _ (Record.Barrier _) _ (omega (arith, length_rising (flat_map (argument_qubits w fr) (range a n)), length_qubits w fr (range a n)))
    plain_tallied h fr c ct k s (Statement.Measure q cl) = in_rounds_lem _ _ (λ i. write_tallied _ _ 3 (le_refl 3)) _
    plain_tallied h fr c ct k s (Statement.Reset q) = in_rounds_lem _ _ (λ i. write_tallied _ _ 2 (le_refl 2)) _
    plain_tallied h fr c ct k s (Conditional r v t) = k r v t
    plain_tallied h fr c ct k s Statement.Unknown = none_tallied

    if_tallied : {op : Opening} {ot : Option (ℕ → ℕ)} → Agree op ot → (fr : Frame) (r v t : ℕ)
        → Tallied (visit_conditional w op fr r v t) (conditional_tally w f e ot fr.scope t)
    unfolding visit_conditional conditional_tally kind encode fields
    if_tallied h fr r v t =
        append_tallied _ _ _ _ (write_tallied fr.trace (Record.ConditionalStart (first_bit w r) (classical_size w r) v) 4 (le_refl 4))
        (append_tallied _ _ _ _ (plain_tallied h fr (λ r v t. []) (λ t. 0) (λ r v t. none_tallied) t (statement w t)) (write_tallied fr.trace Record.ConditionalEnd 1 (le_refl 1)))

    body_tallied : {op : Opening} {ot : Option (ℕ → ℕ)} → Agree op ot → (fr : Frame) → Tallied (visit_body w op fr) (body_tally w f e ot fr.scope)
    unfolding visit_body body_tally visit_statement statement_tally
    body_tallied {op} {ot} h fr =
        all_tallied (visit_statement w op fr) (statement_tally w f e ot fr.scope)
        (λ s. plain_tallied h fr (visit_conditional w op fr) (conditional_tally w f e ot fr.scope) (if_tallied h fr) s (statement w s)) (scope_statements w fr.scope)

    openings : (n : ℕ) → Agree (opening w n) (opening_tally w f e n)
    unfolding opening opening_tally
    openings zero = shut
    openings (suc n) = opened (body_tallied (openings n))

    pub steps_tallied : (depth : ℕ) → Tallied (steps w depth) (weight_tally w f e depth)
    unfolding steps weight_tally head_record kind
    steps_tallied depth =
        both_tallied (eqb (main_statements w) 0) none_tallied
        (append_tallied (write [] (head_record w) ∷ []) _ _ _ (write_tallied [] (head_record w) _ (le_of_eq (length_head w))) (body_tallied (openings (depth - 1)) main_frame))
