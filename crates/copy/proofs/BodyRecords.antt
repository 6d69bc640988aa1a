-- The records of a body: U, CX, kind 3 and barriers.
use Prim.Native.Nat.{ℕ, zero, suc, ◌-◌, ◌<◌}
use native.Mathlib.Omega.{arith}
use mathlib.Core.Bool.{Bool, true, false, cond}
use mathlib.Core.List.{List, [], ◌∷◌, ◌++◌, map, flat_map}
use mathlib.Core.Option.{Option, none, some}
use lib.Dec.{eqb, leb}
use lib.ListN.{length}
use Rattle.value.specs.declared.Value.{Value}
use Rattle.model.specs.Lists.{range}
use Rattle.model.specs.Image.{Statement, Gate, Conditional, statement, gates, gate_arguments, gate_body, scope_statements}
use Rattle.model.specs.Records.{Record, encode}
use Rattle.model.specs.Steps.{Refusal, Step, write, enter, refuse, Frame, Opening, Values, have, lack, given, in_rounds, overlap, qubit_in, with_values, write_u, write_cx, distinctly, write_opaque, push_frame, open_gate, visit_gate, visit_plain, visit_conditional, visit_statement, visit_body, opening}
use Rattle.model.specs.Run.{full, stop, after, play}
use Rattle.model.proofs.All.{All-members}
use Rattle.model.specs.All.{All, nil, cons}
use Rattle.model.specs.Accepted.{Accepted, Facts}
use Rattle.model.proofs.Facts.{facts}
use Rattle.copy.specs.BodyKept.{body_frame}
use Rattle.copy.specs.BodyRecord.{BodyRecord, body-U, body-CX, body_opaque, body_barrier}

pub data Bodily : List Step → Type 0 where
  nothing : Bodily []
  writes : {t : List ℕ} {x : Record} {ss : List Step} → BodyRecord x → Bodily ss → Bodily (write t x ∷ ss)
  enters : {t : List ℕ} {g : ℕ} {ss : List Step} → Bodily ss → Bodily (enter t g ∷ ss)
  refuses : {t : List ℕ} {x : Refusal} {ss : List Step} → Bodily ss → Bodily (refuse t x ∷ ss)

bodily_append : {a b : List Step} → Bodily a → Bodily b → Bodily (a ++ b)
bodily_append nothing k = k
bodily_append (writes p h) k = writes p (bodily_append h k)
bodily_append (enters h) k = enters (bodily_append h k)
bodily_append (refuses h) k = refuses (bodily_append h k)

bodily_flat : {P : ℕ → Type 0} (f : ℕ → List Step) → ((x : ℕ) → P x → Bodily (f x)) → {l : List ℕ} → All P l → Bodily (flat_map f l)
unfolding flat_map
bodily_flat f h nil = nothing
bodily_flat f h (cons {x} p k) = bodily_append (h x p) (bodily_flat f h k)

bodily_rounds : (n : ℕ) (f : ℕ → List Step) → ((i : ℕ) → Bodily (f i)) → Bodily (in_rounds n f)
unfolding in_rounds flat_map
bodily_rounds n f h = go (range 0 n)
  where
    go : (l : List ℕ) → Bodily (flat_map f l)
    go [] = nothing
    go (x ∷ l) = bodily_append (h x) (go l)

bodily_given : (t : List ℕ) (v : Values) (next : List Value → List Step) → ((xs : List Value) → Bodily (next xs)) → Bodily (given t v next)
unfolding given
bodily_given t (have xs) next h = h xs
bodily_given t (lack x) next h = refuses nothing

bodily_cond : (b : Bool) {p q : List Step} → Bodily p → Bodily q → Bodily (cond b p q)
bodily_cond true h k = h
bodily_cond false h k = k

-- what of them is written
pub bodily_plays : (room : ℕ) {ss : List Step} → Bodily ss → All BodyRecord (play room ss).written
unfolding play
bodily_plays room nothing = nil
bodily_plays room (refuses h) = nil
bodily_plays room (enters h) = bodily_plays room h
bodily_plays room (writes {t} {x} {ss} p h) = go (leb (length (encode x)) room) (bodily_plays (room - length (encode x)) h)
  where
    go : (b : Bool) → All BodyRecord (play (room - length (encode x)) ss).written → All BodyRecord (cond b (after x (play (room - length (encode x)) ss)) (stop (full t))).written
    go true k = cons p k
    go false k = nil

module _ (image : List ℕ) (acc : Accepted image) where
  pub record Opens (op : Opening) : Type 0 where
    pub opens : (t : List ℕ) (h : ℕ) (vs : List Value) (qs : List ℕ) → h < gates image → Bodily (open_gate op (body_frame t h vs qs) h)

  module _ (t : List ℕ) (g : ℕ) (vs : List Value) (qs : List ℕ) where
    abbrev fr : Frame
    fr = body_frame t g vs qs

    opaque_bodily : (h : ℕ) (al : List ℕ) (xs : List Value) (i : ℕ) → Bodily (write_opaque image fr h al xs i)
    unfolding write_opaque distinctly
    opaque_bodily h al xs i = go (overlap (qubit_in image fr i) [] al)
      where
        go : (o : Option (ℕ × ℕ)) → Bodily (distinctly image t o (Record.Opaque h xs (map (qubit_in image fr i) al)))
        go none = writes body_opaque nothing
        go (some ab) = refuses nothing

    cx_bodily : (a b i : ℕ) → Bodily (write_cx image fr a b i)
    unfolding write_cx
    cx_bodily a b i = bodily_cond (eqb (qubit_in image fr i a) (qubit_in image fr i b)) (refuses nothing) (writes body-CX nothing)

    plain_bodily : {op : Opening} → Opens op → (s : ℕ) (x : Statement) → Facts image (suc g) x → Bodily (visit_plain image (visit_conditional image op fr) op fr s x)
    unfolding visit_plain with_values write_u visit_gate push_frame
    plain_bodily f s (Statement.U theta phi lambda q) m = bodily_given t _ _ λ xs. bodily_rounds _ _ λ i. writes body-U nothing
    plain_bodily f s (Statement.CX a b) m = bodily_rounds _ _ (cx_bodily a b)
    plain_bodily f s (Gate h p a) m =
        bodily_given t _ _ λ xs. bodily_rounds _ _ λ i. bodily_cond (eqb (gate_body image h) 0) (opaque_bodily h (range a (gate_arguments image h)) xs i) (f.opens _ h xs _ m.0)
    plain_bodily f s (Statement.Barrier a n) m = writes body_barrier nothing
    plain_bodily f s (Statement.Measure q c) m = absurd (omega (arith, m.0))
    plain_bodily f s (Statement.Reset q) m = absurd (omega (arith, m.0))
    plain_bodily f s (Conditional x v u) m = absurd (omega (arith, m.0))
    plain_bodily f s Statement.Unknown m = absurd m

    body_bodily : {op : Opening} → g < gates image → Opens op → Bodily (visit_body image op fr)
    unfolding visit_body visit_statement
    body_bodily {op} within f =
        bodily_flat (visit_statement image op fr) (λ s m. plain_bodily f s (statement image s) m)
        (All-members {P = λ s. Facts image (suc g) (statement image s)} (scope_statements image (suc g)) (λ s m. facts image acc (suc g) s (omega arith) m))

  -- the law: nothing else is written by an opened gate
  pub openings_bodily : (n : ℕ) → Opens (opening image n)
  unfolding opening open_gate
  openings_bodily zero = record { opens = λ t h vs qs k. writes body_opaque nothing }
  openings_bodily (suc n) = record { opens = λ t h vs qs k. enters (body_bodily t h vs qs k (openings_bodily n)) }
