-- Words are read from bytes one after the other, and the words of an image that is too long may be capped.
use Prim.Native.Nat.{ℕ, zero, suc, ◌+◌, ◌*◌, ◌≤◌, ◌<◌, min}
use native.Mathlib.Numerals.{add-one}
use native.Mathlib.Omega.{arith}
use mathlib.Core.Path.{◌≡◌, refl, sym, ap, ◌∙◌}
use mathlib.Core.Bool.{Bool, true, false}
use mathlib.Core.List.{List, [], ◌∷◌, ◌++◌}
use borrow.Author.Tests.{le-leb, lt-leb, ltb-true, ltb-false}
use lib.Dec.{ltb}
use lib.ListN.{length, get_or, take, drop, set}
use lib.Seq.{sets, sets-eq, take-append_seam, drop-drop}
use Rattle.model.specs.Lists.{every}
use Rattle.model.specs.Check.{bad, contents_ok, check}
use Rattle.model.specs.Listing.{little_endian, words_of}
use Rattle.model.proofs.PlayLaws.{sets_append}

-- ---- words

pub length_words : (n : ℕ) (bytes : List ℕ) → length (words_of n bytes) ≡ n
unfolding words_of
length_words zero bytes = refl
length_words (suc n) bytes = ap suc (length_words n (drop 8 bytes))

words_snoc : (n : ℕ) (bytes : List ℕ) → words_of (suc n) bytes ≡ words_of n bytes ++ little_endian (take 8 (drop (8 * n) bytes)) ∷ []
unfolding words_of
words_snoc zero bytes = refl
words_snoc (suc n) bytes =
    let e : 8 * suc n ≡ 8 + 8 * n = omega arith in
    rw (e, sym (drop-drop (8 * n) 8 bytes)) (ap (λ (l : List ℕ). little_endian (take 8 bytes) ∷ l) (words_snoc n (drop 8 bytes)))

-- words that are set behind words
sets_behind : {ws' ws'' : List ℕ} (ws : List ℕ) (start i : ℕ) (us vs : List ℕ)
    → i ≡ start + length us → ws' ≡ sets ws start us → ws'' ≡ sets ws' i vs → ws'' ≡ sets ws start (us ++ vs)
sets_behind ws start i us vs e h k = k ∙ rw (h, e) (sets_append ws start us vs)

pub words_more : {ws' : List ℕ} (ws input : List ℕ) (from i : ℕ) {w : ℕ} → ws' ≡ sets ws 0 (words_of i (drop from input)) → w ≡ little_endian (take 8 (drop (from + 8 * i) input))
    → set ws' i w ≡ sets ws 0 (words_of (i + 1) (drop from input))
words_more ws input from i {w} e f =
    sets_behind ws 0 i (words_of i (drop from input)) (w ∷ []) (omega (arith, length_words i (drop from input))) e refl
    ∙ rw (add-one i, words_snoc i (drop from input), drop-drop (8 * i) from input, f) refl

pub words_none : (ws bytes : List ℕ) → ws ≡ sets ws 0 (words_of 0 bytes)
unfolding words_of
words_none ws bytes = refl

-- ---- words that were read

-- words at the front are what the front holds
sets_front : (us ws : List ℕ) → length us ≤ length ws → take (length us) (sets ws 0 us) ≡ us
sets_front us ws h = rw (sets-eq us ws 0 (omega arith)) (take-append_seam us (drop (0 + length us) ws))

module _ (ws bytes : List ℕ) {ws' : List ℕ} {n : ℕ} (h : n ≤ length ws) (e : ws' ≡ sets ws 0 (words_of n bytes)) where
  pub read_front : take n ws' ≡ words_of n bytes
  read_front =
      let k = length_words n bytes in
      ap (take n) e ∙ ap (λ (j : ℕ). take j (sets ws 0 (words_of n bytes))) (sym k) ∙ sets_front (words_of n bytes) ws (omega arith)

-- the depth and the image behind it
pub parted : {A : Type 0} (f : List ℕ → ℕ → A) (bytes : List ℕ) {k m : ℕ} → k ≡ suc m
    → f (words_of m (drop 8 bytes)) (little_endian (take 8 bytes)) ≡ f (drop 1 (words_of k bytes)) (get_or (words_of k bytes) 0 0)
unfolding words_of
parted f bytes e = rw e refl

-- ---- an image that is too long

pub too_long : (image : List ℕ) → 8192 < length image → check image ≡ bad 1 0
unfolding check contents_ok every
too_long image h = rw (lt-leb (length image) 8192 h, le-leb 9 (length image) (omega arith)) refl

-- of m words, the first 8,193 at most: the same to all that answers images that are too long alike
pub at_most_same : {A : Type 0} (f : List ℕ → A) (long : A) → ((image : List ℕ) → 8192 < length image → f image ≡ long)
    → (m n : ℕ) (bytes : List ℕ) → n ≡ min m 8193 → f (words_of n bytes) ≡ f (words_of m bytes)
at_most_same f long h m n bytes e = go (ltb m 8193) refl
  where
    go : (b : Bool) → ltb m 8193 ≡ b → f (words_of n bytes) ≡ f (words_of m bytes)
    go true c =
        let same : n ≡ m = omega (arith, ltb-true m 8193 c) in
        ap (λ (k : ℕ). f (words_of k bytes)) same
    go false c =
        h (words_of n bytes) (omega (arith, length_words n bytes, ltb-false m 8193 c)) ∙ sym (h (words_of m bytes) (omega (arith, length_words m bytes, ltb-false m 8193 c)))
