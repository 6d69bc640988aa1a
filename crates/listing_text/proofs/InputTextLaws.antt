-- The listing of an input is the text of its run, or the line of an input that is no depth and image.
use Prim.Native.Nat.{ℕ, ◌-◌, ◌/◌, ◌%◌, ◌≤◌, ◌<◌, min}
use native.Mathlib.Omega.{arith}
use mathlib.Core.Path.{◌≡◌, refl, ap, ◌∙◌}
use mathlib.Core.List.{List}
use lib.ListN.{length, take, drop}
use Rattle.std.specs.Prelude.{◌&&◌, eqb, leb, true, false}
use Rattle.model.specs.Run.{stop, flawed, accepted, runs, numbers}
use Rattle.model.specs.Listing.{little_endian, words_of, refused_text, run_text, listing}
use Rattle.text.specs.declared.Text.{Text}
use Rattle.text.specs.Put.{Put}
use Rattle.text.proofs.PutLaws.{put_same}
use Rattle.model.proofs.WordsOfLaws.{too_long, at_most_same, parted}
use Rattle.listing_text.specs.InputText.{input_text}

-- ---- an input that is no depth and image

pub listing_malformed : (bytes : List ℕ) → (eqb (length bytes % 8) 0 && leb 8 (length bytes)) ≡ false → refused_text (numbers 1 0 0) ≡ listing bytes
unfolding listing
listing_malformed bytes h = rw h refl

-- ---- a depth and an image

pub listing_run : (bytes : List ℕ) → (eqb (length bytes % 8) 0 && leb 8 (length bytes)) ≡ true → 8 ≤ length bytes → input_text bytes ≡ listing bytes
unfolding listing
listing_run bytes h k = rw h (parted (λ (l : List ℕ) (n : ℕ). run_text (runs l n 8192 256)) bytes (omega arith))

long_run : (depth : ℕ) (image : List ℕ) → 8192 < length image → runs image depth 8192 256 ≡ stop (flawed 1 0)
unfolding runs accepted
long_run depth image h = rw (too_long image h) refl

-- the image is read, capped where it is too long, and run
pub input_put : (input : List ℕ) {image : List ℕ} {depth : ℕ} {t t' : Text} → image ≡ words_of (min (length input / 8 - 1) 8193) (drop 8 input)
    → depth ≡ little_endian (take 8 input) → Put (run_text (runs image depth 8192 256)) t t' → Put (input_text input) t t'
input_put input {depth = depth} r d p =
    let n = length input / 8 - 1 in
    let same : runs (words_of (min n 8193) (drop 8 input)) depth 8192 256 ≡ runs (words_of n (drop 8 input)) depth 8192 256 =
    at_most_same (λ (l : List ℕ). runs l depth 8192 256) (stop (flawed 1 0)) (long_run depth) n (min n 8193) (drop 8 input) refl
    in
    put_same
    (ap (λ (l : List ℕ). run_text (runs l depth 8192 256)) r ∙ ap run_text same
    ∙ ap (λ (k : ℕ). run_text (runs (words_of n (drop 8 input)) k 8192 256)) d)
    p
