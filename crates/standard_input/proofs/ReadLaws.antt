-- Bytes that are read one after the other into a room: what stands at its front, and what is taken of the input.
use Rattle.std.proofs.Common.{◌≡◌, ℕ, ◌+◌, ◌≤◌, List, ◌++◌, None, Some, length, take, sym, ap, ◌∙◌, append_assoc, length-take-le}
use Rattle.std.proofs.Math.Seq.{take-append-add}
use Rattle.std.proofs.lemmas.List.{take-append-le}
use Rattle.std.specs.declared.option.Option.{Option}
use Rattle.std.specs.Io.KnownBytes.{Consumes}
use borrow.Rule.Slice.PartMut.{put_mid, post_of}

-- The front of a room grows by the bytes that are written behind it.
pub front_longer : (at n k : ℕ) (room part : List ℕ) → at ≤ length room → n ≤ length part
    → take (at + n) (put_mid at k room part) ≡ take at room ++ take n part
front_longer at n k room part inside fits =
    let behind = post_of at k room in
    ap (λ m. take (m + n) (put_mid at k room part)) (sym (length-take-le at room inside))
    ∙ take-append-add (take at room) (part ++ behind) n
    ∙ ap (λ bytes. take at room ++ bytes) (take-append-le n part behind fits)

-- What two reads take, one after the other.
pub takes_more : (first then last : Option (List ℕ)) (xs ys : List ℕ) → Consumes first then xs → Consumes then last ys
    → Consumes first last (xs ++ ys)
takes_more None then last xs ys p q = tt
takes_more (Some known) None last xs ys p q = absurd p
takes_more (Some known) (Some left) None xs ys p q = absurd q
takes_more (Some known) (Some left) (Some end) xs ys p q = p ∙ ap (λ bytes. xs ++ bytes) q ∙ sym (append_assoc xs ys end)
