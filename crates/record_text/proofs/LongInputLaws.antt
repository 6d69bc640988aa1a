-- Of an input that is longer than a program's room, what the program leaves out changes no answer.
use Prim.Native.Nat.{ℕ, zero, suc, ◌-◌, ◌*◌, ◌/◌, ◌≤◌, ◌<◌, min}
use native.Mathlib.Omega.{arith}
use mathlib.Core.Path.{◌≡◌, refl, sym, ap}
use mathlib.Core.List.{List, [], ◌∷◌}
use borrow.Author.Tests.{lt-ltb, ne_eqb}
use lib.ListN.{length, take, drop}
use lib.Seq.{take-take, length-take-le}
use Rattle.model.specs.Lists.{sum}
use Rattle.model.specs.RecordReader.{records_in}
use Rattle.model.specs.Listing.{little_endian, words_of}
use Rattle.model.proofs.ListLaws.{drop_take}
use Rattle.record_text.specs.ReadBack.{last_line, records_text, read_back}

-- n words of a front that has them
words_of_front : (n m : ℕ) (bytes : List ℕ) → 8 * n ≤ m → words_of n (take m bytes) ≡ words_of n bytes
unfolding words_of
words_of_front zero m bytes h = refl
words_of_front (suc n) m bytes h =
    rw (take-take 8 m bytes (omega arith), drop_take 8 m bytes (omega arith))
    (ap (λ (l : List ℕ). little_endian (take 8 bytes) ∷ l) (words_of_front n (m - 8) (drop 8 bytes) (omega arith)))

-- of a longer input its length does not matter
long_text : (n : ℕ) (records : List (List ℕ)) → 524288 < n → records_text n records ≡ records_text 524289 records
unfolding records_text last_line sum
long_text n [] h = rw (lt-ltb 524288 n h, ne_eqb (8 * 0) n (λ e. omega arith)) refl
long_text n (r ∷ rs) h = rw (lt-ltb 524288 n h, lt-ltb 0 (suc (length rs)) (omega arith)) refl

pub read_of_front : (bytes : List ℕ) → 524289 ≤ length bytes → read_back (take 524289 bytes) ≡ read_back bytes
unfolding read_back
read_of_front bytes h =
    let size : length (take 524289 bytes) ≡ 524289 = length-take-le 524289 bytes h in
    let front : min (length (take 524289 bytes) / 8) 65536 ≡ 65536 = omega arith in
    let whole : min (length bytes / 8) 65536 ≡ 65536 = omega arith in
    rw (front, whole, size, words_of_front 65536 524289 bytes (omega arith)) (sym (long_text (length bytes) (records_in (words_of 65536 bytes)) h))
