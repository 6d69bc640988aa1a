-- The line of an encoded record is the record's text, where its angles are sound.
use Prim.Native.Nat.{ℕ, suc, ◌+◌, ◌-◌, ◌*◌, ◌%◌, ◌^◌, ◌≤◌, ◌<◌}
use native.Mathlib.Nat.{le_of_lt}
use native.Mathlib.Omega.{arith}
use mathlib.Core.Path.{◌≡◌, refl, sym, ap, ◌∙◌}
use mathlib.Core.Bool.{Bool, true, false, cond}
use mathlib.Core.List.{List, [], ◌∷◌, ◌++◌, map, flat_map}
use borrow.Author.Tests.{eq-eqb, ne_eqb}
use lib.Dec.{eqb}
use lib.ListN.{length, get_or}
use Rattle.rational.specs.declared.Rational64.{Rational64}
use Rattle.rational.specs.Rational.{LowestTerms}
use Rattle.value.specs.declared.Value.{Value}
use Rattle.value.specs.Value.{Sound}
use Rattle.model.specs.Records.{Record, kind, fields, encode, fraction_words, angle_words}
use Rattle.model.specs.Claims.{angles_of}
use Rattle.model.specs.Listing.{decimal, fraction_text, angle_text, fields_text, record_text}
use Rattle.model.proofs.All.{head-All, tail-All}
use Rattle.model.specs.All.{All}
use Rattle.text.specs.NumberLine.{spaced}
use Rattle.text.specs.RecordLine.{signed_text, numerator, words_text, record_line}
use Rattle.text.proofs.SignedTextLaws.{no_sign, minus_sign}
use Rattle.text.proofs.RecordLineLaws.{numerator_opaque, numerator_behind}
use Rattle.text.proofs.NumberLineLaws.{line_spaced}

-- ---- angles

numerator_text : (x : Rational64) → LowestTerms x → signed_text (cond x.negative (2 ^ 64 - x.numer) x.numer) ≡ cond x.negative (45 ∷ decimal x.numer) (decimal x.numer)
numerator_text x h = go x.negative
  where
    go : (b : Bool) → signed_text (cond b (2 ^ 64 - x.numer) x.numer) ≡ cond b (45 ∷ decimal x.numer) (decimal x.numer)
    go true =
        let e : 2 ^ 64 - (2 ^ 64 - x.numer) ≡ x.numer = omega (arith, h.numer_fits) in
        minus_sign (2 ^ 64 - x.numer) (omega (arith, h.numer_fits)) ∙ ap (λ (m : ℕ). 45 ∷ decimal m) e
    go false = no_sign x.numer h.numer_fits

module _ (ws : List ℕ) where
  -- words i to i + 3 are an angle's, and more follow
  angle_text_lem : (i : ℕ) (x : Value) (rest : List ℕ) (more : List (List ℕ)) → Sound x
      → numerator ws i ≡ true → numerator ws (suc i) ≡ false → numerator ws (suc (suc i)) ≡ true → numerator ws (suc (suc (suc i))) ≡ false
      → words_text ws (suc (suc (suc (suc i)))) rest ≡ spaced more → words_text ws i (angle_words x ++ rest) ≡ spaced (angle_text x ++ more)
  unfolding words_text angle_words fraction_words angle_text fraction_text flat_map
  angle_text_lem i x rest more s a b c d e =
      rw (a, b, c, d, e, numerator_text x.a s.rational_part, numerator_text x.b s.pi_part) refl

  -- no numerator from i on
  plain_text : (i : ℕ) (l : List ℕ) → ((j : ℕ) → i ≤ j → numerator ws j ≡ false) → words_text ws i l ≡ spaced (map decimal l)
  unfolding words_text flat_map
  plain_text i [] h = refl
  plain_text i (w ∷ l) h = rw (h i (omega arith), plain_text (suc i) l (λ j k. h j (le_of_lt k))) refl

-- the angles of a kind 3 from the k-th on, then its qubits
module _ (ws qs : List ℕ) (p : ℕ) (kind-is : get_or ws 0 0 ≡ 3) (count-is : get_or ws 2 0 ≡ p) where
  at_word : (k i : ℕ) → k < p → 4 + 4 * k ≤ i → i < 8 + 4 * k → numerator ws i ≡ eqb (i % 2) 0
  at_word k i h a b = sym (numerator_opaque ws i kind-is (omega arith) (omega (arith, count-is)))

  even : (k i : ℕ) → k < p → 4 + 4 * k ≤ i → i < 8 + 4 * k → i % 2 ≡ 0 → numerator ws i ≡ true
  even k i h a b e = at_word k i h a b ∙ eq-eqb (i % 2) 0 e

  odd : (k i : ℕ) → k < p → 4 + 4 * k ≤ i → i < 8 + 4 * k → i % 2 ≡ 1 → numerator ws i ≡ false
  odd k i h a b e = at_word k i h a b ∙ ne_eqb (i % 2) 0 (λ d. omega arith)

  angles_text : (k : ℕ) (xs : List Value) → k + length xs ≡ p → All Sound xs → words_text ws (4 + 4 * k) (flat_map angle_words xs ++ qs) ≡ spaced (flat_map angle_text xs ++ map decimal qs)
  unfolding flat_map angle_words fraction_words angle_text fraction_text
  angles_text k [] e s = plain_text ws (4 + 4 * k) qs (λ j h. sym (numerator_behind ws j kind-is (omega arith) (omega (arith, count-is))))
  angles_text k (x ∷ xs) e s =
      let h : k < p = omega arith in
      let next : 4 + 4 * suc k ≡ suc (suc (suc (suc (4 + 4 * k)))) = omega arith in
      angle_text_lem ws (4 + 4 * k) x (flat_map angle_words xs ++ qs) (flat_map angle_text xs ++ map decimal qs) (head-All s)
      (even k (4 + 4 * k) h (omega arith) (omega arith) (omega arith))
      (odd k (suc (4 + 4 * k)) h (omega arith) (omega arith) (omega arith))
      (even k (suc (suc (4 + 4 * k))) h (omega arith) (omega arith) (omega arith))
      (odd k (suc (suc (suc (4 + 4 * k)))) h (omega arith) (omega arith) (omega arith))
      (rw next at (angles_text (suc k) xs (omega arith) (tail-All s)))

-- ---- records

fields_text_lem : (r : Record) → All Sound (angles_of r) → words_text (encode r) 1 (fields r) ≡ spaced (fields_text r)
unfolding numerator encode kind fields angles_of fields_text words_text flat_map angle_words fraction_words angle_text fraction_text
fields_text_lem (Record.Head qs bs) s = plain_text (encode (Record.Head qs bs)) 1 (fields (Record.Head qs bs)) (λ j h. refl)
fields_text_lem (Record.U theta phi lambda q) s =
    let ws = encode (Record.U theta phi lambda q) in
    let last : List ℕ = q ∷ [] in
    let text : List (List ℕ) = decimal q ∷ [] in
    angle_text_lem ws 1 theta (angle_words phi ++ (angle_words lambda ++ last)) (angle_text phi ++ (angle_text lambda ++ text)) (head-All s) refl refl refl refl
    (angle_text_lem ws 5 phi (angle_words lambda ++ last) (angle_text lambda ++ text) (head-All (tail-All s)) refl refl refl refl
    (angle_text_lem ws 9 lambda last text (head-All (tail-All (tail-All s))) refl refl refl refl refl))
fields_text_lem (Record.CX a b) s = refl
fields_text_lem (Record.Opaque g xs qs) s =
    ap (λ (l : List ℕ). (32 ∷ decimal g) ++ ((32 ∷ decimal (length xs)) ++ ((32 ∷ decimal (length qs)) ++ l))) (angles_text (encode (Record.Opaque g xs qs)) qs (length xs) refl refl 0 xs (omega arith) s)
fields_text_lem (Record.Barrier qs) s = plain_text (encode (Record.Barrier qs)) 1 (fields (Record.Barrier qs)) (λ j h. refl)
fields_text_lem (Record.Measure q b) s = refl
fields_text_lem (Record.Reset q) s = refl
fields_text_lem (Record.ConditionalStart b n v) s = refl
fields_text_lem Record.ConditionalEnd s = refl

pub record_text_lem : (r : Record) → All Sound (angles_of r) → record_line (encode r) ≡ record_text r
unfolding record_line record_text encode
record_text_lem r s = sym (line_spaced (decimal (kind r)) (fields_text r) ∙ ap (λ (l : List ℕ). decimal (kind r) ++ (l ++ 10 ∷ [])) (sym (fields_text_lem r s)))

pub records_text_lem : (rs : List Record) → All (λ r. All Sound (angles_of r)) rs → flat_map record_line (map encode rs) ≡ flat_map record_text rs
unfolding flat_map
records_text_lem [] s = refl
records_text_lem (r ∷ rs) s = rw (record_text_lem r (head-All s), records_text_lem rs (tail-All s)) refl
