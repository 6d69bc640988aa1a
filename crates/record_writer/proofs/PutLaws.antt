-- Words that are copied over a part of others.
use Prim.Native.Nat.{ℕ, ◌+◌, ◌≤◌}
use native.Mathlib.Omega.{arith}
use mathlib.Core.Path.{◌≡◌, sym, ap, ◌∙◌}
use mathlib.Core.List.{List, ◌++◌, append_assoc}
use lib.ListN.{length, take, drop}
use lib.Seq.{sets, sets-eq, drop-drop}
use borrow.Rule.Slice.PartMut.{put_mid}

pub part_put : {A : Type 0} (out ws : List A) (start n : ℕ) → n ≡ length ws → start + n ≤ length out → put_mid start n out ws ≡ sets out start ws
part_put {A} out ws start n e h = ap (λ (l : List A). take start out ++ (ws ++ l)) (drop-drop n start out ∙ ap (λ (k : ℕ). drop (start + k) out) e) ∙ sym (append_assoc (take start out) ws (drop (start + length ws) out)) ∙ sym (sets-eq ws out start (omega (arith, e)))
