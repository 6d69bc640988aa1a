-- Steps that were run: those that open no gate, loops, calls with their pairs of trace words, and one thing after another.
use Prim.Native.Nat.{ℕ, suc, ◌+◌, ◌-◌, ◌≤◌, ◌<◌}
use native.Mathlib.Nat.{add-zero}
use native.Mathlib.Omega.{arith}
use mathlib.Core.Path.{◌≡◌, refl, sym, ap, subst, ◌∙◌}
use mathlib.Core.Bool.{Bool, true, false, cond}
use mathlib.Core.List.{List, [], ◌∷◌, ◌++◌, map, flat_map}
use lib.Dec.{leb}
use lib.ListN.{length, set}
use lib.Seq.{sets, set_comm, length-sets}
use Rattle.model.specs.Lists.{range}
use Rattle.model.specs.Records.{encode}
use Rattle.model.specs.Steps.{Step, write, enter, refuse, in_rounds}
use Rattle.model.specs.Run.{Answer, done, refused, full, flawed, short_trace, trace_of, stop, after, play}
use Rattle.model.proofs.PlayLaws.{going_stopped, rounds_next, plays_enter, plays_append, plays_stopped}
use Rattle.model.proofs.TraceLaws.{under, under_answer, plays_under}
use Rattle.record_writer.specs.declared.Position.{Position}
use Rattle.record_writer.specs.declared.LinearizeErrorKind.{LinearizeErrorKind}
use Rattle.record_writer.specs.declared.LinearizeErrorKind.TheVariants as kind
use Rattle.record_writer.specs.declared.LinearizeError.{LinearizeError}
use Rattle.std.specs.Prelude.{Ok, Err}
use Rattle.record_writer.specs.Promise.{InOutput, RunResult, refusal_answer, run_answer_of, WroteSteps}
use Rattle.model.specs.Image.{statement_at}
use Rattle.statement.specs.declared.Call.{Call}
use Rattle.gate.specs.RanSteps.{RanSteps, Popped}
use Rattle.record_writer.proofs.WroteStepsLaws.{not_done}
use Rattle.statement.proofs.LoopedLaws.{Looped, looped_start, looped_next, looped_done}

-- ---- without calls

no_calls : (k : LinearizeErrorKind) → trace_of (refusal_answer k []) ≡ []
unfolding trace_of
no_calls (kind.DivideByZero p) = refl
no_calls (kind.ApproximateFail p f) = refl
no_calls (kind.NumericalOverflow p) = refl
no_calls (kind.OverlappingRegs p q) = refl
no_calls (kind.FunctionOfFloats p) = refl
no_calls kind.OutputFull = refl
no_calls (kind.Flawed c) = refl
no_calls kind.ShortTrace = refl

quiet : (r : RunResult) → trace_of (run_answer_of r []) ≡ []
unfolding trace_of
quiet (Ok p) = refl
quiet (Err e) = no_calls e.kind

-- an answer that equals another one
pub ran_answer : {ss : List Step} {out out' trace trace' : List ℕ} {at : Position} {r s : RunResult} → r ≡ s → RanSteps ss out at trace s out' trace' → RanSteps ss out at trace r out' trace'
ran_answer e w = rw e w

pub wrote_ran : {ss : List Step} {out out' : List ℕ} {at : Position} {r : RunResult} (trace : List ℕ) → WroteSteps ss out at r out' → RanSteps ss out at trace r out' trace
wrote_ran {at = at} {r} trace w =
    record { calls = []; plays = w.plays; tracing = rw (quiet r) refl; level = rw (quiet r) (w.level ∙ sym (add-zero at.trace)) }

-- steps that are done leave the trace as it was
pub ran_wrote : {ss : List Step} {out out' trace trace' : List ℕ} {at p : Position} {r : RunResult} → RanSteps ss out at trace r out' trace' → r ≡ Ok p → WroteSteps ss out at (Ok p) out' × (trace' ≡ trace)
unfolding trace_of
ran_wrote {ss} {out} {out'} {trace} {trace'} {at} {p} w e =
    let v : RanSteps ss out at trace (Ok p) out' trace' = rw e at w in
    (record { plays = v.plays; level = v.level ∙ add-zero at.trace }, v.tracing)

-- steps and traces may be replaced by equal ones
module _ {ss : List Step} {out out' trace trace' : List ℕ} {at : Position} {r : RunResult} where
  pub ran_steps : {others : List Step} → ss ≡ others → RanSteps ss out at trace r out' trace' → RanSteps others out at trace r out' trace'
  ran_steps e w = rw (← e) w

  pub ran_from : {trace₀ : List ℕ} → trace ≡ trace₀ → RanSteps ss out at trace r out' trace' → RanSteps ss out at trace₀ r out' trace'
  ran_from e w = rw (← e) w

  pub ran_still : {trace'' : List ℕ} → trace'' ≡ trace' → RanSteps ss out at trace r out' trace' → RanSteps ss out at trace r out' trace''
  ran_still e w = rw e w

-- ---- loops

module _ (g : ℕ → List Step) (n : ℕ) {out : List ℕ} {at : Position} {i : ℕ} {out' : List ℕ} {position : Position} (l : Looped g n out at i out' position) where
  pub ran_next : {ss : List Step} {out'' trace trace' : List ℕ} {r : RunResult} {p : Position} → i < n → ss ≡ g i → RanSteps ss out' position trace r out'' trace' → r ≡ Ok p → Looped g n out at (i + 1) out'' p × (trace' ≡ trace)
  ran_next h f w e = let v = ran_wrote w e in (looped_next g n l h f refl v.0, v.1)

  pub ran_stop : {ss : List Step} {out'' trace trace' : List ℕ} {r : RunResult} {e : LinearizeError} {m : ℕ} → i < n → ss ≡ g i → RanSteps ss out' position trace r out'' trace' → r ≡ Err e → n ≡ m
      → RanSteps (in_rounds m g) out at trace (Err e) out'' trace'
  ran_stop {out'' = out''} {trace} {trace'} {e = x} h f w e d =
      let v : RanSteps (g i) out' position trace (Err x) out'' trace' = rw (f, e) at w in
      rw (← d) (record {
        calls = v.calls;
        plays = going_stopped l.going (flat_map g (range (i + 1) (n - (i + 1)))) (rounds_next g i n h) v.plays (not_done x.kind v.calls);
        tracing = v.tracing ∙ ap (λ (k : ℕ). sets trace k (trace_of (refusal_answer x.kind v.calls))) l.level;
        level = v.level ∙ ap (λ (k : ℕ). k + length (trace_of (refusal_answer x.kind v.calls))) l.level;
      })

  pub ran_done : {trace : List ℕ} {m : ℕ} → n ≤ i → n ≡ m → RanSteps (in_rounds m g) out at trace (Ok position) out' trace
  ran_done {trace} h d = wrote_ran trace (looped_done g n l h d)

-- ---- statements in turn, from one to below another

-- those below s are played
pub record Visited (g : ℕ → List Step) (first end : ℕ) (out : List ℕ) (at : Position) (s : ℕ) (out' : List ℕ) (position : Position) : Type 0 where
  pub from : first ≤ s
  pub looped : Looped (λ i. g (first + i)) (end - first) out at (s - first) out' position

module _ (g : ℕ → List Step) {first end : ℕ} {out : List ℕ} {at : Position} where
  pub visited_start : InOutput out at → Visited g first end out at first out at
  visited_start o = let e : first - first ≡ 0 = omega arith in
      record { from = omega arith; looped = rw e (looped_start (λ i. g (first + i)) (end - first) o) }

  module _ {s : ℕ} {out' : List ℕ} {position : Position} (v : Visited g first end out at s out' position) where
    module _ (h : s < end) {ss : List Step} (f : ss ≡ g s) {out'' trace trace' : List ℕ} {r : RunResult} (w : RanSteps ss out' position trace r out'' trace') where
      inside : s - first < end - first
      inside = omega (arith, v.from)

      round : ss ≡ g (first + (s - first))
      round = let e : first + (s - first) ≡ s = omega (arith, v.from) in f ∙ ap g (sym e)

      pub visited_next : {p : Position} → r ≡ Ok p → Visited g first end out at (s + 1) out'' p × (trace' ≡ trace)
      visited_next {p} e =
          let n = ran_next (λ i. g (first + i)) (end - first) v.looped inside round w e in
          let d : s - first + 1 ≡ s + 1 - first = omega (arith, v.from) in
          (record { from = omega (arith, v.from); looped = subst (λ (i : ℕ). Looped (λ j. g (first + j)) (end - first) out at i out'' p) d n.0 }, n.1)

      pub visited_stop : {e : LinearizeError} → r ≡ Err e → RanSteps (in_rounds (end - first) (λ i. g (first + i))) out at trace (Err e) out'' trace'
      visited_stop e = ran_stop (λ i. g (first + i)) (end - first) v.looped inside round w e refl

    pub visited_done : {trace : List ℕ} → end ≤ s → RanSteps (in_rounds (end - first) (λ i. g (first + i))) out at trace (Ok position) out' trace
    visited_done h = ran_done (λ i. g (first + i)) (end - first) v.looped (omega (arith, v.from)) refl

-- ---- calls

-- a store below a run of stores
set_below : (t : List ℕ) (i j a : ℕ) (ws : List ℕ) → j < i → set (sets t i ws) j a ≡ sets (set t j a) i ws
set_below t i j a [] h = refl
set_below t i j a (w ∷ ws) h =
    set_below (set t i w) (suc i) j a ws (omega arith)
    ∙ ap (λ (l : List ℕ). sets l (suc i) ws) (set_comm t i j w a (λ e. omega arith))

-- the caller's pair goes in front of the pairs that stand behind it
pair_before : (t : List ℕ) (k a b : ℕ) (ws : List ℕ) → sets (sets t (k + 2) ws) k (a ∷ b ∷ []) ≡ sets t k (a ∷ b ∷ ws)
pair_before t k a b ws =
    let e : k + 2 ≡ suc (suc k) = omega arith in
    ap (λ (i : ℕ). sets (sets t i ws) k (a ∷ b ∷ [])) e
    ∙ ap (λ (l : List ℕ). set l (suc k) b) (set_below t (suc (suc k)) k a ws (omega arith))
    ∙ set_below (set t k a) (suc (suc k)) (suc k) b ws (omega arith)

-- playing steps ends in no other way than these
abbrev Inner : Answer → Type 0
Inner done = Unit {0}
Inner (refused t x) = Unit {0}
Inner (full t) = Unit {0}
Inner (flawed n p) = ⊥
Inner short_trace = ⊥

play_inner : (n : ℕ) (ss : List Step) → Inner (play n ss).answer
unfolding play
play_inner n [] = tt
play_inner n (refuse t x ∷ ss) = tt
play_inner n (enter t g ∷ ss) = play_inner n ss
play_inner n (write t r ∷ ss) = go (leb (length (encode r)) n) (play_inner (n - length (encode r)) ss)
  where
    go : (b : Bool) → Inner (play (n - length (encode r)) ss).answer → Inner (cond b (after r (play (n - length (encode r)) ss)) (stop (full t))).answer
    go true h = h
    go false h = tt

-- a refusal's answer with the caller's pair in front
module _ (u : List ℕ) where
  deeper_answer : (k : LinearizeErrorKind) (t : List ℕ) → refusal_answer k (u ++ t) ≡ under_answer u (refusal_answer k t)
  unfolding under_answer
  deeper_answer (kind.DivideByZero p) t = refl
  deeper_answer (kind.ApproximateFail p f) t = refl
  deeper_answer (kind.NumericalOverflow p) t = refl
  deeper_answer (kind.OverlappingRegs p q) t = refl
  deeper_answer (kind.FunctionOfFloats p) t = refl
  deeper_answer kind.OutputFull t = refl
  deeper_answer (kind.Flawed c) t = refl
  deeper_answer kind.ShortTrace t = refl

  deeper_trace : (k : LinearizeErrorKind) (t : List ℕ) → Inner (refusal_answer k t) → trace_of (refusal_answer k (u ++ t)) ≡ u ++ trace_of (refusal_answer k t)
  unfolding trace_of
  deeper_trace (kind.DivideByZero p) t h = refl
  deeper_trace (kind.ApproximateFail p f) t h = refl
  deeper_trace (kind.NumericalOverflow p) t h = refl
  deeper_trace (kind.OverlappingRegs p q) t h = refl
  deeper_trace (kind.FunctionOfFloats p) t h = refl
  deeper_trace kind.OutputFull t h = refl
  deeper_trace (kind.Flawed c) t h = absurd h
  deeper_trace kind.ShortTrace t h = absurd h

-- a call that comes back, and one that is refused: its pair of words stands in front
module _ {ss : List Step} {out out' trace trace' : List ℕ} (position : Position) {r : RunResult}
    (w : RanSteps ss out (record { records = position.records; words = position.words; trace = position.trace + 2 }) trace r out' trace') where
  pub ran_returned : (u : List ℕ) {p next : Position} → r ≡ Ok p → next ≡ record { records = p.records; words = p.words; trace = position.trace } → WroteSteps (map (under u) ss) out position (Ok next) out' × (trace' ≡ trace)
  unfolding under_answer
  ran_returned u e f =
      let v = ran_wrote w e in
      (record { plays = rw f (plays_under u v.0.plays); level = ap (λ (x : Position). x.trace) f }, v.1)

  pub ran_refused : (a b : ℕ) {place : ℕ} {x : LinearizeError} {trace'' : List ℕ} → r ≡ Err x → place ≡ b → trace'' ≡ sets trace' position.trace (a ∷ place ∷ []) → RanSteps (map (under (a ∷ b ∷ [])) ss) out position trace (Err x) out' trace''
  ran_refused a b {place} {x} {trace''} e g f =
      let k = position.trace in
      let here : Position = record { records = position.records; words = position.words; trace = k + 2 } in
      let v : RanSteps ss out here trace (Err x) out' trace' = rw e at w in
      let t = trace_of (refusal_answer x.kind v.calls) in
      let inner : Inner (refusal_answer x.kind v.calls) = subst Inner (sym v.plays.answers) (play_inner _ ss) in
      let longer = deeper_trace (a ∷ b ∷ []) x.kind v.calls inner in
      record {
        calls = a ∷ b ∷ v.calls;
        plays = rw (deeper_answer (a ∷ b ∷ []) x.kind v.calls) (plays_under (a ∷ b ∷ []) v.plays);
        tracing = f ∙ ap (λ (p : ℕ). sets trace' k (a ∷ p ∷ [])) g ∙ ap (λ (l : List ℕ). sets l k (a ∷ b ∷ [])) v.tracing ∙ pair_before trace k a b t ∙ rw longer refl;
        level = v.level ∙ rw longer (omega arith);
      }

-- a call comes back, however it ended
pub ran_popped : (image : List ℕ) (scope : ℕ) (call : Call) {ss : List Step} {out out' trace trace' trace'' : List ℕ} {at : Position} (answer : RunResult) {r : RunResult}
    → RanSteps ss out (record { records = at.records; words = at.words; trace = at.trace + 2 }) trace answer out' trace' → Popped image scope call at answer trace' r trace''
    → RanSteps (map (under (scope ∷ statement_at image call.site.statement ∷ [])) ss) out at trace r out' trace''
ran_popped image scope call {trace = trace} {at = at} (Ok next) w p =
    let v = ran_returned at w (scope ∷ statement_at image call.site.statement ∷ []) refl refl in
    rw p.0 (ran_still (p.1 ∙ v.1) (wrote_ran trace v.0))
ran_popped image scope call {at = at} (Err e) w p = rw p.0 (ran_refused at w scope (statement_at image call.site.statement) refl refl p.1)

-- a body is entered
pub ran_enter : (t : List ℕ) (g : ℕ) {ss : List Step} {out out' trace trace' : List ℕ} {at : Position} {r : RunResult} → RanSteps ss out at trace r out' trace' → RanSteps (enter t g ∷ ss) out at trace r out' trace'
ran_enter t g w = record { calls = w.calls; plays = plays_enter t g w.plays; tracing = w.tracing; level = w.level }

-- the lengths of both slices stay
pub ran_lengths : {ss : List Step} {out out' trace trace' : List ℕ} {at : Position} {r : RunResult} → RanSteps ss out at trace r out' trace' → (length out' ≡ length out) × (length trace' ≡ length trace)
ran_lengths {trace = trace} {at = at} {r} w = (w.plays.same, ap length w.tracing ∙ length-sets trace at.trace (trace_of (run_answer_of r w.calls)))

-- ---- one after the other

module _ {s : List Step} {out out₁ : List ℕ} {at : Position} {r₁ : RunResult} where
  pub wrote_then : {ss : List Step} {trace out₂ trace₂ : List ℕ} {p : Position} {r : RunResult} → WroteSteps s out at r₁ out₁ → r₁ ≡ Ok p → RanSteps ss out₁ p trace r out₂ trace₂ → RanSteps (s ++ ss) out at trace r out₂ trace₂
  wrote_then {trace = trace} {p = p} {r} w e k =
      let v : WroteSteps s out at (Ok p) out₁ = rw e at w in
      record {
        calls = k.calls;
        plays = plays_append v.plays k.plays;
        tracing = k.tracing ∙ ap (λ (n : ℕ). sets trace n (trace_of (run_answer_of r k.calls))) v.level;
        level = k.level ∙ ap (λ (n : ℕ). n + length (trace_of (run_answer_of r k.calls))) v.level;
      }

  pub ran_stops : (ss : List Step) {trace trace₁ : List ℕ} {x : LinearizeError} → RanSteps s out at trace r₁ out₁ trace₁ → r₁ ≡ Err x → RanSteps (s ++ ss) out at trace (Err x) out₁ trace₁
  ran_stops ss {trace} {trace₁} {x} w e =
      let v : RanSteps s out at trace (Err x) out₁ trace₁ = rw e at w in
      record { calls = v.calls; plays = plays_stopped ss v.plays (not_done x.kind v.calls); tracing = v.tracing; level = v.level }

  pub wrote_stops : (ss : List Step) (trace : List ℕ) {x : LinearizeError} → WroteSteps s out at r₁ out₁ → r₁ ≡ Err x → RanSteps (s ++ ss) out at trace (Err x) out₁ trace
  wrote_stops ss trace {x} w e =
      let v : WroteSteps s out at (Err x) out₁ = rw e at w in
      wrote_ran trace (record { plays = plays_stopped ss v.plays (not_done x.kind []); level = v.level })

pub ran_then : {s ss : List Step} {out out₁ : List ℕ} {at : Position} {r₁ : RunResult} {trace trace₁ out₂ : List ℕ} {p : Position} {r : RunResult} → RanSteps s out at trace r₁ out₁ trace₁ → r₁ ≡ Ok p → WroteSteps ss out₁ p r out₂ → RanSteps (s ++ ss) out at trace r out₂ trace₁
ran_then {trace = trace} w e k = let v = ran_wrote w e in ran_still v.1 (wrote_then v.0 refl (wrote_ran trace k))
