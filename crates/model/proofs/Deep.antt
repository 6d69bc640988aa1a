-- Depths above the number of gates give the same steps and the same figures, since bodies call only gates of smaller number.
use Prim.Native.Nat.{ℕ, zero, suc, ◌+◌, ◌-◌, ◌*◌, ◌≤◌, ◌<◌}
use native.Mathlib.Nat.{not-suc-le-zero}
use native.Mathlib.Omega.{arith}
use mathlib.Core.Path.{◌≡◌, refl, ap, ap₂, fun_ext}
use mathlib.Core.Bool.{Bool, true, false, cond}
use mathlib.Core.List.{List, [], ◌∷◌, ◌++◌, map, flat_map}
use mathlib.Core.Option.{Option}
use lib.Dec.{T, ltb→lt}
use Rattle.value.specs.declared.Value.{Value}
use Rattle.model.specs.Lists.{range, sum}
use Rattle.model.specs.Image.{Statement, Gate, Conditional, statement, gates, scope_statements}
use Rattle.model.specs.Check.{plain_flaw, downward, conditional_ok, conditional_flaw, flaw}
use Rattle.model.specs.Steps.{Step, enter, Frame, Opening, in_rounds, with_values, open_gate, visit_gate, visit_plain, visit_conditional, visit_statement, visit_body, opening, push_frame, main_frame, steps}
use Rattle.model.specs.Tally.{open_gate_tally, gate_tally, plain_tally, conditional_tally, statement_tally, body_tally, opening_tally, weight_tally, of_kind, the_words, record_figure, entry_figure, word_bound, figures}
use Rattle.model.proofs.All.{test, All-weaken}
use Rattle.model.specs.All.{All, nil, cons}
use Rattle.model.proofs.Accepted.{passes}
use Rattle.model.specs.Accepted.{Accepted, calls_below}

flat_same : (f g : ℕ → List Step) {l : List ℕ} → All (λ i. f i ≡ g i) l → flat_map f l ≡ flat_map g l
unfolding flat_map
flat_same f g nil = refl
flat_same f g (cons h k) = ap₂ ◌++◌ h (flat_same f g k)

sum_same : (f g : ℕ → ℕ) {l : List ℕ} → All (λ i. f i ≡ g i) l → sum (map f l) ≡ sum (map g l)
unfolding sum
sum_same f g nil = refl
sum_same f g (cons h k) = ap₂ ◌+◌ h (sum_same f g k)

-- where an if has no flaw, neither has its inner statement
inner_flaw : (b : Bool) (m n : ℕ) → cond b m (suc n) ≡ 0 → m ≡ 0
inner_flaw true m n e = e
inner_flaw false m n e = absurd (omega arith)

module _ (image : List ℕ) where
  calls_below_few : (scope : ℕ) → scope ≤ gates image → calls_below image scope ≤ gates image
  calls_below_few zero h = omega arith
  calls_below_few (suc g) h = omega arith

  pub called_below : (scope g : ℕ) → g < gates image → T (downward scope g) → g < calls_below image scope
  unfolding downward
  called_below zero g h t = h
  called_below (suc k) g h t = ltb→lt g k t

  called : (ifFlaw : ℕ → ℕ → ℕ → ℕ) (scope s g p a : ℕ) → plain_flaw image ifFlaw scope s (Gate g p a) ≡ 0 → g < calls_below image scope
  unfolding plain_flaw
  called ifFlaw scope s g p a e = called_below scope g (ltb→lt _ _ (test 1 _ (passes 0 _ e tt))) (passes 1 _ e tt)

  -- ---- steps

  -- two openings open the gates below n alike
  abbrev Alike : ℕ → Opening → Opening → Type 0
  Alike n o o' =
      (g : ℕ) → g < n → (t : List ℕ) (values : List Value) (qubits : List ℕ) → let new : Frame = record { scope = suc g; trace = t; values = values; qubits = qubits } in
      open_gate o new g ≡ open_gate o' new g

  module _ (n : ℕ) (o o' : Opening) (alike : Alike n o o') (frame : Frame) (below : calls_below image frame.scope ≤ n) where
    gate_same : (s g : ℕ) (al : List ℕ) (xs : List Value) (i : ℕ) → g < n → visit_gate image o frame s g al xs i ≡ visit_gate image o' frame s g al xs i
    unfolding visit_gate push_frame
    gate_same s g al xs i h = rw (alike g h)

    plain_same : (c c' : ℕ → ℕ → ℕ → List Step) (ifFlaw : ℕ → ℕ → ℕ → ℕ) → ((r v t : ℕ) → ifFlaw r v t ≡ 0 → c r v t ≡ c' r v t)
        → (s : ℕ) (x : Statement) → plain_flaw image ifFlaw frame.scope s x ≡ 0 → visit_plain image c o frame s x ≡ visit_plain image c' o' frame s x
    unfolding visit_plain plain_flaw
    plain_same c c' ifFlaw h s (Statement.U theta phi lambda q) e = refl
    plain_same c c' ifFlaw h s (Statement.CX a b) e = refl
    plain_same c c' ifFlaw h s (Gate g p a) e =
        let k = called ifFlaw frame.scope s g p a e in
        ap (with_values image frame _) (fun_ext λ xs. ap (in_rounds _) (fun_ext λ i. gate_same s g _ xs i (omega arith)))
    plain_same c c' ifFlaw h s (Statement.Barrier a n) e = refl
    plain_same c c' ifFlaw h s (Statement.Measure q b) e = refl
    plain_same c c' ifFlaw h s (Statement.Reset q) e = refl
    plain_same c c' ifFlaw h s (Conditional r v t) e = h r v t e
    plain_same c c' ifFlaw h s Statement.Unknown e = refl

    conditional_same : (s r v t : ℕ) → conditional_flaw image frame.scope s r v t ≡ 0 → visit_conditional image o frame r v t ≡ visit_conditional image o' frame r v t
    unfolding visit_conditional conditional_flaw
    conditional_same s r v t e =
        rw (plain_same (λ r v t. []) (λ r v t. []) (λ r v t. 4) (λ r v t z. refl) t (statement image t) (inner_flaw (conditional_ok image frame.scope s r t) _ 3 e))

    body_same : All (λ s. flaw image frame.scope s ≡ 0) (scope_statements image frame.scope) → visit_body image o frame ≡ visit_body image o' frame
    unfolding visit_body visit_statement flaw
    body_same h =
        flat_same _ _ (All-weaken (λ s e. plain_same _ _ (conditional_flaw image frame.scope s) (conditional_same s) s (statement image s) e) h)

  module _ (accepted : Accepted image) where
    -- openings n deep or deeper open the gates below n alike
    alike : (n a b : ℕ) → n ≤ gates image → n ≤ a → n ≤ b → Alike n (opening image a) (opening image b)
    unfolding opening open_gate
    alike zero a b h p q = λ g k. absurd (not-suc-le-zero k)
    alike (suc n) zero b h p q = absurd (not-suc-le-zero p)
    alike (suc n) (suc a) zero h p q = absurd (not-suc-le-zero q)
    alike (suc n) (suc a) (suc b) h p q =
        λ g k t values qubits.
        ap (λ l. enter t g ∷ l) (body_same n _ _ (alike n a b (omega arith) (omega arith) (omega arith)) _ (omega arith) (accepted.flawless (suc g) (omega arith)))

    pub deep_steps : (d e : ℕ) → gates image < d → gates image < e → steps image d ≡ steps image e
    unfolding steps
    deep_steps d e h k =
        rw (body_same (gates image) _ _ (alike (gates image) (d - 1) (e - 1) (omega arith) (omega arith) (omega arith)) main_frame (omega arith) (accepted.flawless 0 (omega arith)))

  -- ---- figures

  module _ (weight : ℕ → ℕ → ℕ) (entry : ℕ) where
    -- the same of what two openings come to
    abbrev AlikeTally : ℕ → Option (ℕ → ℕ) → Option (ℕ → ℕ) → Type 0
    AlikeTally n o o' = (g : ℕ) → g < n → open_gate_tally image weight entry o g ≡ open_gate_tally image weight entry o' g

    module _ (n : ℕ) (o o' : Option (ℕ → ℕ)) (alike : AlikeTally n o o') (scope : ℕ) (below : calls_below image scope ≤ n) where
      gate_tally_lem : (g : ℕ) → g < n → gate_tally image weight entry o g ≡ gate_tally image weight entry o' g
      unfolding gate_tally
      gate_tally_lem g h = rw (alike g h)

      plain_tally_lem : (c c' : ℕ → ℕ) (ifFlaw : ℕ → ℕ → ℕ → ℕ) → ((r v t : ℕ) → ifFlaw r v t ≡ 0 → c t ≡ c' t)
          → (s : ℕ) (x : Statement) → plain_flaw image ifFlaw scope s x ≡ 0 → plain_tally image weight entry c o scope x ≡ plain_tally image weight entry c' o' scope x
      unfolding plain_tally plain_flaw
      plain_tally_lem c c' ifFlaw h s (Statement.U theta phi lambda q) e = refl
      plain_tally_lem c c' ifFlaw h s (Statement.CX a b) e = refl
      plain_tally_lem c c' ifFlaw h s (Gate g p a) e =
          let k = called ifFlaw scope s g p a e in
          ap (◌*◌ _) (gate_tally_lem g (omega arith))
      plain_tally_lem c c' ifFlaw h s (Statement.Barrier a n) e = refl
      plain_tally_lem c c' ifFlaw h s (Statement.Measure q b) e = refl
      plain_tally_lem c c' ifFlaw h s (Statement.Reset q) e = refl
      plain_tally_lem c c' ifFlaw h s (Conditional r v t) e = h r v t e
      plain_tally_lem c c' ifFlaw h s Statement.Unknown e = refl

      conditional_tally_lem : (s r v t : ℕ) → conditional_flaw image scope s r v t ≡ 0 → conditional_tally image weight entry o scope t ≡ conditional_tally image weight entry o' scope t
      unfolding conditional_tally conditional_flaw
      conditional_tally_lem s r v t e =
          rw (plain_tally_lem (λ t. 0) (λ t. 0) (λ r v t. 4) (λ r v t z. refl) t (statement image t) (inner_flaw (conditional_ok image scope s r t) _ 3 e))

      body_tally_lem : All (λ s. flaw image scope s ≡ 0) (scope_statements image scope) → body_tally image weight entry o scope ≡ body_tally image weight entry o' scope
      unfolding body_tally statement_tally flaw
      body_tally_lem h = sum_same _ _ (All-weaken (λ s e. plain_tally_lem _ _ (conditional_flaw image scope s) (conditional_tally_lem s) s (statement image s) e) h)

    module _ (accepted : Accepted image) where
      alike_tally : (n a b : ℕ) → n ≤ gates image → n ≤ a → n ≤ b → AlikeTally n (opening_tally image weight entry a) (opening_tally image weight entry b)
      unfolding opening_tally open_gate_tally
      alike_tally zero a b h p q = λ g k. absurd (not-suc-le-zero k)
      alike_tally (suc n) zero b h p q = absurd (not-suc-le-zero p)
      alike_tally (suc n) (suc a) zero h p q = absurd (not-suc-le-zero q)
      alike_tally (suc n) (suc a) (suc b) h p q =
          λ g k. ap (λ m. entry + m) (body_tally_lem n _ _ (alike_tally n a b (omega arith) (omega arith) (omega arith)) (suc g) (omega arith) (accepted.flawless (suc g) (omega arith)))

      -- a scope's statements come to the same where all that they may call is opened
      pub deep_body : (scope a b : ℕ) → scope ≤ gates image → calls_below image scope ≤ a → calls_below image scope ≤ b → body_tally image weight entry (opening_tally image weight entry a) scope ≡ body_tally image weight entry (opening_tally image weight entry b) scope
      deep_body scope a b h p q = body_tally_lem (calls_below image scope) _ _ (alike_tally (calls_below image scope) a b (calls_below_few scope h) p q) scope (omega arith) (accepted.flawless scope h)

      deep_weights : (d e : ℕ) → gates image < d → gates image < e → weight_tally image weight entry d ≡ weight_tally image weight entry e
      unfolding weight_tally
      deep_weights d e h k = rw (deep_body 0 (d - 1) (e - 1) (omega arith) (omega arith) (omega arith))

  pub deep_figures : Accepted image → (d e : ℕ) → gates image < d → gates image < e → figures image d ≡ figures image e
  unfolding figures record_figure entry_figure word_bound
  deep_figures accepted d e h k =
      λ i. map (λ kind. deep_weights (of_kind kind) 0 accepted d e h k i) (range 1 7)
      ++ deep_weights (λ kind n. 0) 1 accepted d e h k i ∷ deep_weights the_words 0 accepted d e h k i ∷ []
