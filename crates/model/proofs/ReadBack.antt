-- The record reader finds in the words of records those records, in order.
use Prim.Native.Nat.{ℕ, zero, suc, ◌+◌, ◌-◌, ◌≤◌, zero-le}
use native.Mathlib.Nat.{le_of_suc-le-suc, not-suc-le-zero}
use native.Mathlib.Omega.{arith}
use mathlib.Core.Path.{◌≡◌, refl, ap}
use mathlib.Core.List.{List, [], ◌∷◌, ◌++◌, map, flat_map, append_assoc, append-nil}
use borrow.Author.Tests.{lt-ltb, le-leb, le-ltb}
use lib.ListN.{length, length-append}
use lib.Seq.{take-append_seam, drop-append_seam}
use Rattle.model.specs.Records.{Record, kind, angle_words, fields, encode}
use Rattle.model.specs.RecordReader.{record_length, next, next_at, found, records_from, records_in}
use Rattle.model.proofs.Lengths.{length_words, length_pairs}

-- a record's own words tell its length
pub record_length_lem : (r : Record) (rest : List ℕ) → record_length (encode r ++ rest) ≡ length (encode r)
unfolding record_length encode kind fields angle_words
record_length_lem (Record.Head qs bs) rest = simp length-append (omega (arith, length_pairs qs, length_pairs bs))
record_length_lem (Record.U theta phi lambda q) rest = refl
record_length_lem (Record.CX a b) rest = refl
record_length_lem (Record.Opaque g xs qs) rest = simp length-append (omega (arith, length_words xs))
record_length_lem (Record.Barrier qs) rest = omega arith
record_length_lem (Record.Measure q b) rest = refl
record_length_lem (Record.Reset q) rest = refl
record_length_lem (Record.ConditionalStart b n v) rest = refl
record_length_lem Record.ConditionalEnd rest = refl

positive : (r : Record) → 1 ≤ length (encode r)
unfolding encode
positive r = omega arith

-- where a record's words stand, the record reader finds that record
pub next_record : (before : List ℕ) (r : Record) (rest : List ℕ) → next_at (before ++ (encode r ++ rest)) (length before) ≡ next (encode r)
unfolding next_at
next_record before r rest =
    let n : length (before ++ (encode r ++ rest)) ≡ length before + (length (encode r) + length rest) = simp length-append in
    rw (
      drop-append_seam before (encode r ++ rest),
      record_length_lem r rest,
      take-append_seam (encode r) rest,
      lt-ltb (length before) (length (before ++ (encode r ++ rest))) (omega (arith, positive r)),
      le-leb 1 (length (encode r)) (positive r),
      le-leb (length (encode r)) (length (before ++ (encode r ++ rest)) - length before) (omega arith),
    )

-- from where the words of records stand on, those records
pub reads_from : (before : List ℕ) (rs : List Record) (n : ℕ) → length rs ≤ n → records_from n (before ++ flat_map encode rs) (length before) ≡ map encode rs
unfolding records_from flat_map found next_at
reads_from before [] zero h = refl
reads_from before [] (suc n) h =
    rw (append-nil before, le-ltb (length before) (length before) (omega arith))
reads_from before (r ∷ rs) zero h = absurd (not-suc-le-zero h)
reads_from before (r ∷ rs) (suc n) h =
    rw (next_record before r (flat_map encode rs), ← length-append before (encode r), ← append_assoc before (encode r) (flat_map encode rs))
    (ap (λ (l : List (List ℕ)). encode r ∷ l) (reads_from (before ++ encode r) rs n (le_of_suc-le-suc h)))

-- no more records than words
pub words_enough : (rs : List Record) → length rs ≤ length (flat_map encode rs)
unfolding flat_map
words_enough [] = zero-le
words_enough (r ∷ rs) = omega (arith, length-append (encode r) (flat_map encode rs), positive r, words_enough rs)

pub reads_back : (rs : List Record) → records_in (flat_map encode rs) ≡ map encode rs
unfolding records_in
reads_back rs = reads_from [] rs (length (flat_map encode rs)) (words_enough rs)
