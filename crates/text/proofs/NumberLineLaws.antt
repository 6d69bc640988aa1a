-- A line of numbers is put number after number, and has at most 21 bytes a number.
use Prim.Native.Nat.{ℕ, ◌+◌, ◌-◌, ◌*◌, ◌^◌, ◌≤◌, ◌<◌}
use native.Mathlib.Numerals.{add-one}
use native.Mathlib.Omega.{arith}
use mathlib.Core.Path.{◌≡◌, refl, sym, ap, ◌∙◌}
use mathlib.Core.List.{List, [], ◌∷◌, ◌++◌, map, flat_map, append_assoc}
use lib.ListN.{length, get_or, take, drop, length-drop, drop_of_length-le}
use lib.Seq.{drop-cons, take_all}
use Rattle.model.specs.Listing.{decimal, line}
use Rattle.text.specs.declared.Text.{Text}
use Rattle.text.specs.Put.{RoomFor, Room, Put, PutMost}
use Rattle.text.specs.NumberLine.{spaced, spaced_numbers, spaced_most, named_line, named_line_most, numbers_line}
use Rattle.text.proofs.PutLaws.{put_same, put_then, put_length, Putting, putting_more, putting_last}
use Rattle.model.proofs.DecimalLaws.{decimal_short}

pub line_spaced : (w : List ℕ) (l : List (List ℕ)) → line (w ∷ l) ≡ w ++ (spaced l ++ 10 ∷ [])
unfolding line flat_map
line_spaced w [] = refl
line_spaced w (v ∷ l) = ap (λ (x : List ℕ). w ++ 32 ∷ x) (line_spaced v l ∙ sym (append_assoc v (spaced l) (10 ∷ [])))

-- ---- number after number

numbers_next : (ns : List ℕ) (i : ℕ) → i < length ns → spaced_numbers (drop i ns) ≡ (32 ∷ decimal (get_or ns i 0)) ++ spaced_numbers (drop (i + 1) ns)
unfolding spaced_numbers flat_map
numbers_next ns i h = rw (drop-cons ns i 0 h, add-one i, append_assoc) refl

numbers_end : (ns : List ℕ) (i : ℕ) → length ns ≤ i → spaced_numbers (drop i ns) ≡ 10 ∷ []
unfolding spaced_numbers flat_map
numbers_end ns i h = rw (drop_of_length-le ns h) refl

-- the first i of some numbers are put, and the others and the line feed are still to be put
pub record PuttingNumbers (ns : List ℕ) (t : Text) (i : ℕ) (t' : Text) : Type 0 where
  pub puts : Putting (spaced_numbers ns) (spaced_numbers (drop i ns)) t t'
  pub few : t'.end ≤ t.end + 21 * i

module _ {ns : List ℕ} {t t' : Text} {i : ℕ} (g : PuttingNumbers ns t i t') where
  module _ (h : i < length ns) (k : get_or ns i 0 < 2 ^ 64) where
    pub number_room : RoomFor (spaced_most ns) t → Room (32 ∷ decimal (get_or ns i 0)) t'
    number_room room = record { room = omega (arith, g.few, decimal_short (get_or ns i 0) k, put_length g.puts.done) }

    pub number_more : {t'' : Text} → Put (32 ∷ decimal (get_or ns i 0)) t' t'' → PuttingNumbers ns t (i + 1) t''
    number_more p =
        record {
          puts = putting_more g.puts (numbers_next ns i h) p;
          few = omega (arith, g.few, p.ends, decimal_short (get_or ns i 0) k);
        }

  module _ (inside : i ≤ length ns) where
    pub line_feed_room : RoomFor (spaced_most ns) t → Room (10 ∷ []) t'
    line_feed_room room = record { room = omega (arith, g.few, put_length g.puts.done) }

    pub numbers_put : {t'' : Text} → length ns ≤ i → Put (10 ∷ []) t' t'' → PutMost (spaced_numbers ns) (spaced_most ns) t t''
    numbers_put h p =
        record {
          put = putting_last g.puts (put_same (sym (numbers_end ns i h)) p);
          few = omega (arith, g.few, p.ends);
        }

-- ---- a name, and numbers behind it

module _ (name ns : List ℕ) {t : Text} where
  module _ {t' : Text} (p : Put name t t') where
    pub behind_name : RoomFor (named_line_most name ns) t → RoomFor (spaced_most ns) t'
    behind_name h = omega (arith, p.ends, put_length p)

    pub named_put : {t'' : Text} → PutMost (spaced_numbers ns) (spaced_most ns) t' t'' → PutMost (named_line name ns) (named_line_most name ns) t t''
    unfolding spaced_numbers
    named_put q = record { put = put_same (sym (line_spaced name (map decimal ns))) (put_then p q.put); few = omega (arith, p.ends, q.few) }

-- ---- a line of numbers alone

-- the numbers behind the first
behind : (ns : List ℕ) → take (length ns - 1) (drop 1 ns) ≡ drop 1 ns
behind ns = take_all (length ns - 1) (drop 1 ns) (omega (arith, length-drop 1 ns))

module _ (ns : List ℕ) {t : Text} (some : 1 ≤ length ns) (fits : get_or ns 0 0 < 2 ^ 64) (room : RoomFor (21 * length ns) t) where
  pub first_room : Room (decimal (get_or ns 0 0)) t
  first_room = record { room = omega (arith, decimal_short (get_or ns 0 0) fits) }

  pub behind_first : {t' : Text} → Put (decimal (get_or ns 0 0)) t t' → RoomFor (spaced_most (take (length ns - 1) (drop 1 ns))) t'
  behind_first p = omega (arith, p.ends, put_length p, decimal_short (get_or ns 0 0) fits, ap length (behind ns), length-drop 1 ns)

first_and_others : (ns : List ℕ) → 1 ≤ length ns → numbers_line ns ≡ decimal (get_or ns 0 0) ++ spaced_numbers (drop 1 ns)
unfolding numbers_line spaced_numbers
first_and_others [] h = absurd (omega arith)
first_and_others (n ∷ ns) h = line_spaced (decimal n) (map decimal ns)

module _ (ns : List ℕ) {t t' t'' : Text} (some : 1 ≤ length ns) (p : Put (decimal (get_or ns 0 0)) t t') where
  pub number_line_put : {most : ℕ} → PutMost (spaced_numbers (take (length ns - 1) (drop 1 ns))) most t' t'' → Put (numbers_line ns) t t''
  number_line_put q = put_same (sym (first_and_others ns some)) (put_then p (put_same (ap spaced_numbers (behind ns)) q.put))
