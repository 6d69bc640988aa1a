-- The steps of a frame whose trace is longer in front are the same steps with those words in front of their traces, and are played alike.
use Prim.Native.Nat.{ℕ, zero, suc, ◌-◌}
use mathlib.Core.Path.{◌≡◌, refl, sym, ap, ap₂, ◌∙◌}
use mathlib.Core.Bool.{Bool, true, false, cond}
use mathlib.Core.List.{List, [], ◌∷◌, ◌++◌, map, flat_map, append_assoc}
use mathlib.Core.Option.{Option, none, some}
use lib.Dec.{eqb, leb}
use lib.ListN.{length}
use Rattle.value.specs.declared.Value.{Value}
use Rattle.model.specs.Image.{Statement, Gate, Conditional, statement, statement_at, gate_body, scope_statements}
use Rattle.model.specs.Records.{Record, encode}
use Rattle.model.specs.Steps.{Step, write, enter, refuse, Frame, Opening, Values, have, lack, given, in_rounds, qubit_in, argument_qubits, parameter_values, with_values, write_u, write_cx, distinctly, write_opaque, write_measure, write_reset, push_frame, open_gate, visit_gate, visit_plain, visit_conditional, visit_statement, visit_body, opening}
use Rattle.model.specs.Run.{Answer, done, refused, full, flawed, short_trace, Played, stop, after, play, output}
use Rattle.model.specs.Playing.{OutputState, room, Plays}

map_append : (f : Step → Step) (s t : List Step) → map f (s ++ t) ≡ map f s ++ map f t
map_append f [] t = refl
map_append f (x ∷ s) t = ap (λ l. f x ∷ l) (map_append f s t)

map_flat : (f : Step → Step) (g h : ℕ → List Step) → ((i : ℕ) → g i ≡ map f (h i)) → (l : List ℕ) → flat_map g l ≡ map f (flat_map h l)
unfolding flat_map
map_flat f g h e [] = refl
map_flat f g h e (x ∷ l) = ap₂ ◌++◌ (e x) (map_flat f g h e l) ∙ sym (map_append f (h x) (flat_map h l))

map_cond : (f : Step → Step) (b : Bool) (s t : List Step) {s' t' : List Step} → s' ≡ map f s → t' ≡ map f t → cond b s' t' ≡ map f (cond b s t)
map_cond f true s t p q = p
map_cond f false s t p q = q

module _ (u : List ℕ) where
  -- words in front of a trace
  unfoldable pub under : Step → Step
  under (write t r) = write (u ++ t) r
  under (enter t g) = enter (u ++ t) g
  under (refuse t x) = refuse (u ++ t) x

  unfoldable pub under_answer : Answer → Answer
  under_answer done = done
  under_answer (refused t x) = refused (u ++ t) x
  under_answer (full t) = full (u ++ t)
  under_answer (flawed n p) = flawed n p
  under_answer short_trace = short_trace

  abbrev pub deeper : Frame → Frame
  deeper f = record { scope = f.scope; trace = u ++ f.trace; values = f.values; qubits = f.qubits }

  -- ---- play

  play_under : (n : ℕ) (ss : List Step) → play n (map under ss) ≡ record { written = (play n ss).written; entered = (play n ss).entered; answer = under_answer (play n ss).answer }
  unfolding play under under_answer
  play_under n [] = refl
  play_under n (refuse t x ∷ ss) = refl
  play_under n (enter t g ∷ ss) = ap (λ (x : Played). record { written = x.written; entered = suc x.entered; answer = x.answer }) (play_under n ss)
  play_under n (write t r ∷ ss) = go (leb (length (encode r)) n) (play_under (n - length (encode r)) ss)
    where
      put : Played → Played
      put x = record { written = x.written; entered = x.entered; answer = under_answer x.answer }

      go : (b : Bool) → play (n - length (encode r)) (map under ss) ≡ put (play (n - length (encode r)) ss)
          → cond b (after r (play (n - length (encode r)) (map under ss))) (stop (full (u ++ t))) ≡ put (cond b (after r (play (n - length (encode r)) ss)) (stop (full t)))
      go true e = ap (after r) e
      go false e = refl

  pub plays_under : {ss : List Step} {p q : OutputState} {a : Answer} → Plays ss p q a → Plays (map under ss) p q (under_answer a)
  unfolding output
  plays_under {ss} {p} h =
      let e = play_under (room p) ss in
      record {
        contents = rw e h.contents;
        position = rw e h.position;
        counts = rw e h.counts;
        answers = rw e (ap under_answer h.answers);
        fits = h.fits;
        same = h.same;
        fewer = h.fewer;
      }

  -- ---- steps

  module _ (image : List ℕ) where
    abbrev Moves : Opening → Type 0
    Moves o = (new : Frame) (g : ℕ) → open_gate o (deeper new) g ≡ map under (open_gate o new g)

    module _ (o : Opening) (moves : Moves o) (f : Frame) where
      values_under : (es : List ℕ) (next next' : List Value → List Step) → ((xs : List Value) → next xs ≡ map under (next' xs))
          → with_values image (deeper f) es next ≡ map under (with_values image f es next')
      unfolding with_values given under
      values_under es next next' e = go (parameter_values image f.values es)
        where
          go : (v : Values) → given (u ++ f.trace) v next ≡ map under (given f.trace v next')
          go (have xs) = e xs
          go (lack r) = refl

      cx_under : (a b i : ℕ) → write_cx image (deeper f) a b i ≡ map under (write_cx image f a b i)
      unfolding write_cx qubit_in under
      cx_under a b i = map_cond under (eqb (qubit_in image f i a) (qubit_in image f i b)) (refuse f.trace _ ∷ []) (write f.trace _ ∷ []) refl refl

      opaque_under : (t : List ℕ) (ab : Option (ℕ × ℕ)) (r : Record) → distinctly image (u ++ t) ab r ≡ map under (distinctly image t ab r)
      unfolding distinctly under
      opaque_under t none r = refl
      opaque_under t (some ab) r = refl

      gate_under : (s g : ℕ) (al : List ℕ) (xs : List Value) (i : ℕ) → visit_gate image o (deeper f) s g al xs i ≡ map under (visit_gate image o f s g al xs i)
      unfolding visit_gate write_opaque push_frame qubit_in
      gate_under s g al xs i =
          map_cond under (eqb (gate_body image g) 0) (write_opaque image f g al xs i) (open_gate o (push_frame image f s g al xs i) g)
          (opaque_under f.trace _ _)
          (rw (append_assoc u f.trace (f.scope ∷ statement_at image s ∷ [])) (moves _ g))

      plain_under : (c c' : ℕ → ℕ → ℕ → List Step) → ((r v t : ℕ) → c r v t ≡ map under (c' r v t)) → (s : ℕ) (x : Statement)
          → visit_plain image c o (deeper f) s x ≡ map under (visit_plain image c' o f s x)
      unfolding visit_plain in_rounds write_u write_measure write_reset argument_qubits qubit_in under
      plain_under c c' h s (Statement.U theta phi lambda q) = values_under _ _ _ λ xs. map_flat under _ _ (λ i. refl) _
      plain_under c c' h s (Statement.CX a b) = map_flat under _ _ (cx_under a b) _
      plain_under c c' h s (Gate g p a) = values_under _ _ _ λ xs. map_flat under _ _ (λ i. gate_under s g _ xs i) _
      plain_under c c' h s (Statement.Barrier a n) = refl
      plain_under c c' h s (Statement.Measure q b) = map_flat under _ _ (λ i. refl) _
      plain_under c c' h s (Statement.Reset q) = map_flat under _ _ (λ i. refl) _
      plain_under c c' h s (Conditional r v t) = h r v t
      plain_under c c' h s Statement.Unknown = refl

      if_under : (r v t : ℕ) → visit_conditional image o (deeper f) r v t ≡ map under (visit_conditional image o f r v t)
      unfolding visit_conditional under
      if_under r v t =
          rw (plain_under (λ r v t. []) (λ r v t. []) (λ r v t. refl) t (statement image t), map_append under)

      pub body_under : visit_body image o (deeper f) ≡ map under (visit_body image o f)
      unfolding visit_body visit_statement
      body_under = map_flat under _ _ (λ s. plain_under _ _ if_under s (statement image s)) (scope_statements image f.scope)

    pub opening_under : (n : ℕ) → Moves (opening image n)
    unfolding opening open_gate under
    opening_under zero new g = refl
    opening_under (suc n) new g = ap (λ l. enter (u ++ new.trace) g ∷ l) (body_under (opening image n) (opening_under n) new)
