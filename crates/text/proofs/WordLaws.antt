-- The word of eight bytes is their number, the low byte first, and words are read into a room for so many at most.
use Rattle.std.proofs.Common.{◌≡◌, ℕ, ◌≤◌, ◌-◌, ◌/◌, List, [], ◌∷◌, length, take, drop, min, ap, ap₂, ◌∙◌, arith, length-drop}
use lib.ListN.{replicate, length-replicate}
use Rattle.std.specs.Int.{w64, from_le_bytes}
use Rattle.model.specs.Listing.{little_endian, words_of}

pub eight_bytes : (l : List ℕ) → 8 ≤ length l → from_le_bytes w64 (take 8 l) ≡ little_endian (take 8 l)
unfolding little_endian
eight_bytes (a ∷ b ∷ c ∷ d ∷ e ∷ f ∷ g ∷ h ∷ l) _ = omega arith
eight_bytes [] k = absurd (omega arith)
eight_bytes (a ∷ []) k = absurd (omega arith)
eight_bytes (a ∷ b ∷ []) k = absurd (omega arith)
eight_bytes (a ∷ b ∷ c ∷ []) k = absurd (omega arith)
eight_bytes (a ∷ b ∷ c ∷ d ∷ []) k = absurd (omega arith)
eight_bytes (a ∷ b ∷ c ∷ d ∷ e ∷ []) k = absurd (omega arith)
eight_bytes (a ∷ b ∷ c ∷ d ∷ e ∷ f ∷ []) k = absurd (omega arith)
eight_bytes (a ∷ b ∷ c ∷ d ∷ e ∷ f ∷ g ∷ []) k = absurd (omega arith)

-- the words that a room for so many at most has after they are read
pub words_read : (most m : ℕ) (bytes : List ℕ) {words : List ℕ} → words ≡ words_of (min m (length (replicate {A = ℕ} most 0))) bytes → words ≡ words_of (min m most) bytes
words_read most m bytes r = r ∙ ap (λ (k : ℕ). words_of (min m k) bytes) (length-replicate {A = ℕ} most 0)

-- the same of the words behind the first eight bytes
pub words_behind : (most : ℕ) (input : List ℕ) {bytes words : List ℕ} →
    bytes ≡ drop 8 input → words ≡ words_of (min (length bytes / 8) (length (replicate {A = ℕ} most 0))) bytes → words ≡ words_of (min (length input / 8 - 1) most) (drop 8 input)
words_behind most input {bytes} e r =
    let size : length bytes / 8 ≡ length input / 8 - 1 = omega (arith, ap length e, length-drop 8 input) in
    words_read most _ bytes r ∙ ap₂ (λ (k : ℕ) (l : List ℕ). words_of (min k most) l) size e
