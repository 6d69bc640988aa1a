-- The rule of the depth: with fewer frames than the depth a body is entered and its statements run, with no fewer it is cut. It holds of every image.
use Prim.Native.Nat.{ℕ, suc, ◌+◌, ◌-◌, ◌*◌, ◌≤◌}
use native.Mathlib.Omega.{arith}
use mathlib.Core.Path.{◌≡◌, refl, ◌∙◌}
use mathlib.Core.Bool.{Bool, true, false, ◌||◌}
use mathlib.Core.List.{List, Memᴰ}
use borrow.Author.Tests.{eqb-false}
use lib.Dec.{T, ltb, eqb, le→leb, lt→ltb}
use lib.ListN.{length, length-append}
use Rattle.value.specs.declared.Value.{Value}
use Rattle.model.specs.Lists.{every}
use Rattle.model.specs.Records.{Record, kind, fields, encode}
use Rattle.model.specs.Steps.{Step, Frame, push_frame, head_record, steps}
use Rattle.model.specs.Claims.{frames, within, is_cut, at_depth}
use Rattle.model.proofs.All.{members-All, All-weaken}
use Rattle.model.proofs.Origins.{Call, called_frame, Writes, writes-U, writes-CX, writes_opaque, writes_barrier, writes_measure, writes_reset, writes_start, writes_end, Reached, main, called, Origin, head, writes, cuts, enters, refuses, origins}

within_of : (depth : ℕ) (t : List ℕ) → frames t ≤ depth - 1 → T (within depth t)
unfolding within
within_of depth t h = go (eqb (frames t) 0) refl
  where
    go : (b : Bool) → eqb (frames t) 0 ≡ b → T (b || ltb (frames t) depth)
    go true e = tt
    go false e = let n : ¬ (frames t ≡ 0) = eqb-false (frames t) 0 e in lt→ltb (frames t) depth (omega arith)

module _ (image : List ℕ) (depth : ℕ) where
  -- a call's trace is two words longer
  pushed_length : {frame : Frame} {s g p a : ℕ} {xs : List Value} {i : ℕ} → Call image frame s g p a xs i → length (called_frame image frame s g a xs i).trace ≡ length frame.trace + 2
  unfolding push_frame
  pushed_length {frame} c = length-append frame.trace _

  -- the levels left and the frames on the stack add up to the depth less 1
  levels : {n : ℕ} {frame : Frame} → Reached image depth n frame → (k : ℕ) × (length frame.trace ≡ 2 * k) × (n + k ≡ depth - 1)
  levels main = (0, refl, omega arith)
  levels (called r c) = let l = levels r in (suc l.0, pushed_length c ∙ omega arith, omega arith)

  -- what a statement writes in its own frame is no cut body
  uncut : {frame : Frame} {r : Record} → Writes image frame r → is_cut image r ≡ false
  unfolding is_cut every kind fields encode
  uncut (writes-U h e l) = refl
  uncut (writes-CX h l d) = refl
  uncut (writes_opaque c b d) = rw b
  uncut (writes_barrier h) = refl
  uncut (writes_measure h l) = refl
  uncut (writes_reset h l) = refl
  uncut (writes_start m e) = refl
  uncut writes_end = refl

  at_depth_lem : (s : Step) → Origin image depth s → T (at_depth image depth s)
  unfolding at_depth is_cut every within kind head_record fields encode
  at_depth_lem s head = tt
  at_depth_lem s (writes {frame} r w) = let l = levels r in rw (uncut w) (within_of depth frame.trace (omega arith))
  at_depth_lem s (cuts r c e) = let l = levels r in rw e (le→leb depth _ (omega (arith, pushed_length c)))
  at_depth_lem s (enters r c) = let l = levels r in lt→ltb _ depth (omega (arith, pushed_length c))
  at_depth_lem s (refuses {frame} r) = let l = levels r in within_of depth frame.trace (omega arith)

  pub depth_rule : (s : Step) → Memᴰ s (steps image depth) → T (at_depth image depth s)
  depth_rule = members-All (All-weaken at_depth_lem (origins image depth))
