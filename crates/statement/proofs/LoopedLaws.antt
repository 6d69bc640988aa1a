-- Rounds in turn: what a loop has played after some of them (`Looped`), and when it stops or is done.
use Prim.Native.Nat.{ℕ, ◌+◌, ◌-◌, ◌≤◌, ◌<◌, zero-le}
use native.Mathlib.Omega.{arith}
use mathlib.Core.Path.{◌≡◌, refl, subst, ◌∙◌}
use mathlib.Core.List.{List, [], flat_map}
use Rattle.model.specs.Lists.{range}
use Rattle.model.specs.Steps.{Step, in_rounds}
use Rattle.model.specs.Playing.{Going}
use Rattle.model.proofs.PlayLaws.{going_start, going_part, going_stopped, going_done, rounds_next, rounds_none, rounds_all}
use Rattle.record_writer.specs.declared.Position.{Position}
use Rattle.record_writer.specs.declared.LinearizeError.{LinearizeError}
use Rattle.std.specs.Prelude.{Ok, Err}
use Rattle.record_writer.specs.Promise.{RunResult, state_at, InOutput, WroteSteps}
use Rattle.record_writer.proofs.WroteStepsLaws.{not_done, wrote_open}

-- of n rounds the first i are played
pub record Looped (g : ℕ → List Step) (n : ℕ) (out : List ℕ) (at : Position) (i : ℕ) (out' : List ℕ) (position : Position) : Type 0 where
  pub few : i ≤ n
  pub going : Going (in_rounds n g) (flat_map g (range i (n - i))) (state_at out at) (state_at out' position)
  pub level : position.trace ≡ at.trace
  pub in_output : InOutput out' position

module _ (g : ℕ → List Step) (n : ℕ) {out : List ℕ} {at : Position} where
  pub looped_start : InOutput out at → Looped g n out at 0 out at
  looped_start o =
      record {
        few = zero-le;
        going = subst (λ (rest : List Step). Going (in_rounds n g) rest (state_at out at) (state_at out at)) (rounds_all g n) (going_start (in_rounds n g) o.inside);
        level = refl;
        in_output = o;
      }

  module _ {i : ℕ} {out' : List ℕ} {position : Position} (l : Looped g n out at i out' position) where
    pub looped_next : {ss : List Step} {r : RunResult} {out'' : List ℕ} {p : Position} → i < n → ss ≡ g i → r ≡ Ok p → WroteSteps ss out' position r out'' → Looped g n out at (i + 1) out'' p
    looped_next {out'' = out''} {p} h e d w =
        let v : WroteSteps (g i) out' position (Ok p) out'' = rw (e, d) at w in
        record { few = omega arith; going = going_part l.going (rounds_next g i n h) v.plays; level = v.level ∙ l.level; in_output = wrote_open l.in_output v }

    pub looped_stop : {ss : List Step} {r : RunResult} {out'' : List ℕ} {e : LinearizeError} {m : ℕ} → i < n → ss ≡ g i → r ≡ Err e → n ≡ m → WroteSteps ss out' position r out'' → WroteSteps (in_rounds m g) out at (Err e) out''
    looped_stop {out'' = out''} {e = x} h e d f w =
        let v : WroteSteps (g i) out' position (Err x) out'' = rw (e, d) at w in
        rw (← f) (record { plays = going_stopped l.going (flat_map g (range (i + 1) (n - (i + 1)))) (rounds_next g i n h) v.plays (not_done x.kind []); level = v.level ∙ l.level })

    pub looped_done : {m : ℕ} → n ≤ i → n ≡ m → WroteSteps (in_rounds m g) out at (Ok position) out'
    looped_done h f = rw (← f) (record { plays = going_done l.going (rounds_none g i n h); level = l.level })
