-- A number in two's complement is its magnitude behind its sign, and a word has at most 20 bytes with it.
use Prim.Native.Nat.{ℕ, suc, ◌+◌, ◌-◌, ◌%◌, ◌^◌, ◌≤◌, ◌<◌}
use native.Mathlib.Omega.{arith}
use mathlib.Core.Path.{◌≡◌, refl, ap, ◌∙◌}
use mathlib.Core.Bool.{Bool, true, false, cond}
use mathlib.Core.List.{◌∷◌}
use borrow.Author.Tests.{lt-ltb, le-ltb, ltb-false}
use lib.Dec.{ltb}
use lib.ListN.{length}
use Rattle.model.specs.Listing.{digits, decimal}
use Rattle.text.specs.RecordLine.{signed_text, word_text}
use Rattle.model.proofs.DecimalLaws.{digits_few, decimal_short}

pub no_sign : (n : ℕ) → n < 2 ^ 63 → signed_text n ≡ decimal n
unfolding signed_text
no_sign n h = rw (lt-ltb n (2 ^ 63) h) refl

pub minus_sign : (n : ℕ) → 2 ^ 63 ≤ n → signed_text n ≡ 45 ∷ decimal (2 ^ 64 - n)
unfolding signed_text
minus_sign n h = rw (le-ltb n (2 ^ 63) h) refl

-- the magnitude is the word's complement
pub with_sign : (n m : ℕ) → 2 ^ 63 ≤ n → n < 2 ^ 64 → m < 2 ^ 64 → (m + n) % 2 ^ 64 ≡ 0 → signed_text n ≡ 45 ∷ decimal m
with_sign n m h k l e = let same : 2 ^ 64 - n ≡ m = omega arith in minus_sign n h ∙ ap (λ (d : ℕ). 45 ∷ decimal d) same

-- ---- at most 20 bytes

pub signed_short : (n : ℕ) → n < 2 ^ 64 → length (signed_text n) ≤ 20
unfolding signed_text decimal
signed_short n h = go (ltb n (2 ^ 63)) refl
  where
    go : (b : Bool) → ltb n (2 ^ 63) ≡ b → length (cond b (digits (suc n) n) (45 ∷ digits (suc (2 ^ 64 - n)) (2 ^ 64 - n))) ≤ 20
    go true e = digits_few (suc n) 19 n (omega arith)
    go false e = let p = digits_few (suc (2 ^ 64 - n)) 18 (2 ^ 64 - n) (omega (arith, ltb-false n (2 ^ 63) e)) in omega arith

pub word_short : (b : Bool) (n : ℕ) → n < 2 ^ 64 → length (word_text b n) ≤ 20
word_short true n h = signed_short n h
word_short false n h = decimal_short n h
