-- The tests `declared` and `distinct` of a record's words are those of the record; a barrier's words behind its count rise if its qubits do.
use Prim.Native.Nat.{ℕ, ◌+◌, ◌*◌}
use native.Mathlib.Omega.{arith}
use mathlib.Core.Path.{◌≡◌, refl, ap}
use mathlib.Core.List.{List, [], ◌∷◌, ◌++◌, flat_map}
use lib.Dec.{T}
use lib.ListN.{length, get_or, drop}
use lib.Seq.{take_at, drop_at}
use Rattle.value.specs.declared.Value.{Value}
use Rattle.model.specs.Records.{Record, kind, angle_words, pair, fields, encode}
use Rattle.model.specs.Claims.{pairs_of, opaque_qubits, rises, declared, distinct}
use Rattle.model.proofs.Lengths.{length_words, length_pairs}
use Rattle.model.proofs.TypedRecords.{declared_record, distinct_record, rises_record}

pairs_back : (l : List (ℕ × ℕ)) → pairs_of (flat_map pair l) ≡ l
unfolding pairs_of pair flat_map
pairs_back [] = refl
pairs_back (x ∷ l) = ap (λ (m : List (ℕ × ℕ)). x ∷ m) (pairs_back l)

module _ (image : List ℕ) where
  -- the qubits stand behind a kind 3's angles
  behind_angles : (g n : ℕ) (xs : List Value) (qs : List ℕ) → opaque_qubits (3 ∷ g ∷ length xs ∷ n ∷ (flat_map angle_words xs ++ qs)) ≡ qs
  behind_angles g n xs qs = drop_at (3 ∷ g ∷ length xs ∷ n ∷ flat_map angle_words xs) qs (4 + 4 * length xs) (omega (arith, length_words xs))

  pub declared_encode : (r : Record) → declared image (encode r) ≡ declared_record image r
  unfolding declared declared_record encode kind fields angle_words
  declared_encode (Record.Head qs bs) =
      rw (
        take_at (flat_map pair qs) (flat_map pair bs) (2 * length qs) (omega (arith, length_pairs qs)),
        drop_at (0 ∷ length qs ∷ length bs ∷ flat_map pair qs) (flat_map pair bs) (3 + 2 * length qs) (omega (arith, length_pairs qs)),
        pairs_back qs,
        pairs_back bs,
      )
  declared_encode (Record.U theta phi lambda q) = refl
  declared_encode (Record.CX a b) = refl
  declared_encode (Record.Opaque g xs qs) = rw (behind_angles g (length qs) xs qs)
  declared_encode (Record.Barrier qs) = refl
  declared_encode (Record.Measure q b) = refl
  declared_encode (Record.Reset q) = refl
  declared_encode (Record.ConditionalStart b n v) = refl
  declared_encode Record.ConditionalEnd = refl

  pub distinct_encode : (r : Record) → distinct image (encode r) ≡ distinct_record image r
  unfolding distinct distinct_record encode kind fields angle_words
  distinct_encode (Record.Head qs bs) = refl
  distinct_encode (Record.U theta phi lambda q) = refl
  distinct_encode (Record.CX a b) = refl
  distinct_encode (Record.Opaque g xs qs) = rw (behind_angles g (length qs) xs qs)
  distinct_encode (Record.Barrier qs) = refl
  distinct_encode (Record.Measure q b) = refl
  distinct_encode (Record.Reset q) = refl
  distinct_encode (Record.ConditionalStart b n v) = refl
  distinct_encode Record.ConditionalEnd = refl

  pub declared_words : (r : Record) → T (declared_record image r) → T (declared image (encode r))
  declared_words r t = rw declared_encode t

  pub distinct_words : (r : Record) → T (distinct_record image r) → T (distinct image (encode r))
  distinct_words r t = rw distinct_encode t

pub rises_words : (r : Record) → T (rises_record r) → get_or (encode r) 0 0 ≡ 4 → T (rises (drop 2 (encode r)))
unfolding rises_record encode kind fields
rises_words (Record.Head qs bs) t e = absurd (omega arith)
rises_words (Record.U theta phi lambda q) t e = absurd (omega arith)
rises_words (Record.CX a b) t e = absurd (omega arith)
rises_words (Record.Opaque g xs qs) t e = absurd (omega arith)
rises_words (Record.Barrier qs) t e = t
rises_words (Record.Measure q b) t e = absurd (omega arith)
rises_words (Record.Reset q) t e = absurd (omega arith)
rises_words (Record.ConditionalStart b n v) t e = absurd (omega arith)
rises_words Record.ConditionalEnd t e = absurd (omega arith)
