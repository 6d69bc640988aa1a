-- The text of an input: a depth and an image, as little-endian words.
use Rattle.std.specs.Prelude.{ℕ, ◌-◌, ◌/◌, List, length, take, drop}
use Rattle.model.specs.Run.{runs}
use Rattle.model.specs.Listing.{little_endian, words_of, run_text, listing}
use Rattle.text.specs.Put.{InFront}

-- the text of the run of the image behind the depth
abbrev pub input_text : List ℕ → List ℕ
input_text bytes = run_text (runs (words_of (length bytes / 8 - 1) (drop 8 bytes)) (little_endian (take 8 bytes)) 8192 256)

-- the listing of an input stands in front of a text
abbrev pub ListingInFront : List ℕ → List ℕ → ℕ → List ℕ → Type 0
ListingInFront input text n text' = InFront (listing input) text n text'
