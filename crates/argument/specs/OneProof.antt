-- That an image is accepted has one proof at most, and so has that statements are run in a scope: a struct may hold either beside what it is said of.
use Rattle.std.specs.Prelude.{ℕ, zero, suc, ◌≡◌, List, [], ◌∷◌}
use Rattle.std.specs.List.{AllByRecursion, AllByRecursion-prop}
use Rattle.std.proofs.Common.{refl, sym, ap, ◌∙◌}
use Rattle.std.proofs.Props.{props}
use Rattle.model.specs.All.{All, nil, cons}
use Rattle.model.specs.Accepted.{Accepted, FrameOk}
use Rattle.argument.specs.Frames.{ScopeContext}

module _ {A : Type 0} (P : A → Type 0) where
  parts : {xs : List A} → All P xs → AllByRecursion P xs
  parts nil = tt
  parts (cons p ps) = (p, parts ps)

  whole : (xs : List A) → AllByRecursion P xs → All P xs
  whole [] ps = nil
  whole (x ∷ xs) ps = cons ps.0 (whole xs ps.1)

  of_parts : {xs : List A} (h : All P xs) → whole xs (parts h) ≡ h
  unfolding whole parts
  of_parts nil = refl
  of_parts (cons p ps) = ap (cons p) (of_parts ps)

  pub all_prop : ((x : A) → IsProp (P x)) → (xs : List A) → IsProp (All P xs)
  all_prop one xs h k = sym (of_parts h) ∙ ap (whole xs) (AllByRecursion-prop P one xs (parts h) (parts k)) ∙ of_parts k

pub accepted_prop : (image : List ℕ) → IsProp (Accepted image)
accepted_prop image = hlevel (props, all_prop)

-- a frame is judged by whether its scope is main or a body, and in either case in one way at most
frame_prop : (image : List ℕ) (scope : ℕ) (qubits : List ℕ) → IsProp (FrameOk image scope [] qubits)
frame_prop image zero qubits = hlevel props
frame_prop image (suc g) qubits = hlevel (props, all_prop)

pub scope_context_prop : (image : List ℕ) (scope : ℕ) (qubits : List ℕ) → IsProp (ScopeContext image scope qubits)
scope_context_prop image scope qubits = hlevel (props, frame_prop)
