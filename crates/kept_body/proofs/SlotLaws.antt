-- What the words of a slot say: its angles, and what it holds when it was filled.
use Prim.Native.Nat.{ℕ, zero, suc, ◌+◌, ◌*◌, ◌≤◌, ◌<◌, max}
use native.Mathlib.Nat.{zero-add, add-zero, not-suc-le-zero, eq-or-lt_of_le, max-le, le-max_left, le-max_right}
use native.Mathlib.Numerals.{add-one}
use native.Mathlib.Omega.{arith}
use mathlib.Core.Path.{◌≡◌, refl, sym, ap, subst, ◌∙◌}
use mathlib.Core.Logic.{◌⊎◌, inl, inr}
use mathlib.Core.Bool.{Bool, true, false, cond, not, ◌&&◌, ◌||◌}
use mathlib.Core.List.{List, [], ◌∷◌, ◌++◌, map, flat_map, append-nil}
use mathlib.Core.Option.{none, some}
use lib.Dec.{T, T_not, eqb, leb, ltb, eqb→eq, ltb→lt}
use borrow.Author.Tests.{eqb-true, leb-true, ltb-true, eq-eqb, ne_eqb}
use lib.ListN.{length, get_or, set, take, drop, length-set, length-map, get_or-append}
use lib.Seq.{sets, length-sets, ext_get_or, get_or-take, get_or-drop, get_or-set_same, get_or-set_other, length-take-le, take-suc}
use Rattle.model.specs.Image.{word, gate_at, gates, gate_parameters, gate_arguments}
use Rattle.model.specs.Accepted.{Accepted}
use Rattle.model.proofs.Accepted.{few_parameters, few_arguments}
use Rattle.model.specs.Lists.{range}
use Rattle.model.specs.Claims.{differ}
use Rattle.model.proofs.ListLaws.{entry_of_map, flat_append}
use Rattle.model.proofs.SetsLaws.{put_more}
use Rattle.model.proofs.Lengths.{length_range}
use Rattle.model.specs.All.{nil}
use Rattle.model.specs.Steps.{overlap}
use Rattle.model.proofs.All.{and_t, all-All, All-all, All-range, range-All}
use Rattle.model.proofs.StepsSound.{no_overlap, differ_apart}
use Rattle.std.specs.Prelude as Prelude
use Rattle.std.specs.Prelude.{Some, None, is_some}
use Rattle.statement.specs.Statements.{Overlaps, overlap_at}
use Rattle.copy.proofs.BodyKeptLaws.{part_new}
use Rattle.statement.specs.declared.Call.{Call}
use Rattle.std.specs.Bool.{beq}
use Rattle.rational.specs.declared.Rational64.{Rational64}
use Rattle.rational.specs.Rational.{same_fraction}
use Rattle.value.specs.declared.Value.{Value}
use Rattle.model.specs.Evaluate.{zero_value}
use Rattle.kept_body.specs.Slot.{value_at, words_of_value, same_value, slot_angles, slot_need, most_slot_words, slot_levels, slot_words, opened_alike, same_angles, same_body, may_be_copied, SlotFilled}

-- ---- tests

-- what a test says that was passed
pub told : {r b : Bool} → r ≡ b → r ≡ true → T b
told e t = subst T (sym (sym e ∙ t)) tt

pub holds : (b : Bool) → T b → b ≡ true
holds true t = refl
holds false t = absurd t

-- a body that wrote words was run with different qubits
pub written_distinct : (words : ℕ) (qubits : List ℕ) → T (may_be_copied words qubits) → ¬ (words ≡ 0) → T (differ qubits)
written_distinct words qubits t n = subst (λ (b : Bool). T (b || differ qubits)) (ne_eqb words 0 n) t

-- ---- levels

-- levels with which a body is opened alike, test by test
abbrev pub OpenedAlike : ℕ → ℕ → ℕ → ℕ → Type 0
OpenedAlike g n n' words = (n ≡ n') ⊎ (((words ≡ 0) × (n ≤ n')) ⊎ ((g < n) × (g < n')))

module _ (g n n' words : ℕ) where
  alike_says : T (opened_alike g n n' words) → OpenedAlike g n n' words
  alike_says = go (eqb n n') refl (eqb words 0) refl (leb n n') refl (ltb g n) refl
    where
      go : (a : Bool) → eqb n n' ≡ a → (b : Bool) → eqb words 0 ≡ b → (c : Bool) → leb n n' ≡ c → (d : Bool) → ltb g n ≡ d → T (a || ((b && c) || (d && ltb g n'))) → OpenedAlike g n n' words
      go true e b f c h d k t = inl (eqb-true n n' e)
      go false e true f true h d k t = inr (inl (eqb-true words 0 f, leb-true n n' h))
      go false e true f false h true k t = inr (inr (ltb-true g n k, ltb→lt g n' t))
      go false e true f false h false k t = absurd t
      go false e false f c h true k t = inr (inr (ltb-true g n k, ltb→lt g n' t))
      go false e false f c h false k t = absurd t

-- ---- angles

same_number : {m n : ℕ} → T (eqb m n) → m ≡ n
same_number {m} {n} t = eqb→eq m n t

-- signs, fractions and angles that are told to be the same are so
same_sign : (a b : Bool) → T (beq a b) → a ≡ b
same_sign true true t = refl
same_sign true false t = absurd t
same_sign false true t = absurd t
same_sign false false t = refl

fractions_same : (x y : Rational64) → T (same_fraction x y) → x ≡ y
fractions_same x y t =
    let p = and_t (beq x.negative y.negative) (eqb x.numer y.numer && eqb x.denom y.denom) t in
    let q = and_t (eqb x.numer y.numer) (eqb x.denom y.denom) p.1 in
    λ i. record { negative = same_sign x.negative y.negative p.0 i; numer = same_number q.0 i; denom = same_number q.1 i }

values_same : (x y : Value) → T (same_value x y) → x ≡ y
values_same x y t =
    let p = and_t (same_fraction x.a y.a) (same_fraction x.b y.b) t in
    λ i. record { a = fractions_same x.a y.a p.0 i; b = fractions_same x.b y.b p.1 i }

sign_itself : (a : Bool) → beq a a ≡ true
sign_itself true = refl
sign_itself false = refl

fraction_itself : (x : Rational64) → same_fraction x x ≡ true
fraction_itself x = rw (sign_itself x.negative, eq-eqb x.numer x.numer refl, eq-eqb x.denom x.denom refl) refl

value_itself : (x : Value) → same_value x x ≡ true
value_itself x = rw (fraction_itself x.a, fraction_itself x.b) refl

-- the two answers of a test of two angles for a difference
pub no_difference : {x y : Value} → false ≡ not (same_value x y) → x ≡ y
no_difference {x} {y} e = go (same_value x y) refl e
  where
    go : (b : Bool) → same_value x y ≡ b → false ≡ not b → x ≡ y
    go true f g = values_same x y (subst T (sym f) tt)
    go false f g = absurd (subst T (sym g) tt)

pub difference : {x y : Value} → true ≡ not (same_value x y) → ¬ (x ≡ y)
difference {x} {y} e f = subst T (e ∙ ap not (ap (λ (z : Value). same_value z y) f ∙ value_itself y)) tt

-- the angles of a slot are the first of some, where each of them is
pub slot_angles_are : (slot : List ℕ) (angles : List Value) (n : ℕ) → n ≤ length angles → ((j : ℕ) → j < n → value_at slot (4 + 6 * j) ≡ get_or angles j zero_value) → slot_angles slot n ≡ take n angles
slot_angles_are slot angles n few h =
    let kept : ℕ → Value = λ j. value_at slot (4 + 6 * j) in
    ext_get_or zero_value (slot_angles slot n) (take n angles) (length-map (range 0 n) kept ∙ length_range 0 n ∙ sym (length-take-le n angles few))
    (λ i l. let k : i < n = omega (arith, length-map (range 0 n) kept, length_range 0 n) in
    entry_of_map kept 0 n i zero_value k ∙ ap kept (zero-add i) ∙ h i k ∙ sym (get_or-take n angles i zero_value k))

module _ (slot : List ℕ) (angles : List Value) where
  abbrev kept : ℕ → Value
  kept j = value_at slot (4 + 6 * j)

  abbrev given : ℕ → Value
  given j = get_or angles j zero_value

  pub angle_same : (n : ℕ) → T (same_angles slot angles n) → (j : ℕ) → j < n → kept j ≡ given j
  angle_same n t j h = values_same _ _ (range-All 0 n j (all-All (λ i. same_value (kept i) (given i)) (range 0 n) t) (omega arith) (omega arith))

  pub angles_told : (n : ℕ) → ((j : ℕ) → j < n → kept j ≡ given j) → T (same_angles slot angles n)
  angles_told n h = All-all (λ i. same_value (kept i) (given i)) (All-range 0 n (λ j p q. subst T (sym (ap (λ (x : Value). same_value x (given j)) (h j (omega arith)) ∙ value_itself (given j))) tt))

  pub same_none : T (same_angles slot angles 0)
  same_none = angles_told 0 (λ j h. absurd (not-suc-le-zero h))

  pub same_next : (i : ℕ) → T (same_angles slot angles i) → kept i ≡ given i → T (same_angles slot angles (i + 1))
  same_next i t e = angles_told (i + 1) (λ j h. go j (eq-or-lt_of_le (omega arith)))
    where
      go : (j : ℕ) → (j ≡ i) ⊎ (j < i) → kept j ≡ given j
      go j (inl d) = rw d e
      go j (inr l) = angle_same i t j l

  -- an angle that is another one
  pub angle_differs : (n i : ℕ) → i < n → ¬ (kept i ≡ given i) → false ≡ same_angles slot angles n
  angle_differs n i h d = go (same_angles slot angles n) refl
    where
      go : (b : Bool) → same_angles slot angles n ≡ b → false ≡ b
      go true e = absurd (d (angle_same n (subst T (sym e) tt) i h))
      go false e = refl

  -- the angles of a slot that are told to be those of others are so
  pub angles_same : (n : ℕ) → n ≤ length angles → T (same_angles slot angles n) → slot_angles slot n ≡ take n angles
  angles_same n few t = slot_angles_are slot angles n few (angle_same n t)

-- ---- what a slot that keeps the body of a call says

module _ (slot : List ℕ) (call : Call) (angles : List Value) (t : T (same_body slot call angles)) where
  abbrev alike : Bool
  alike = opened_alike call.gate (slot_levels slot) call.site.levels_left (slot_words slot)

  tests : T (not (eqb (slot_levels slot) 0)) × (T alike × T (same_angles slot angles call.parameters))
  tests =
      let s = and_t (not (eqb (slot_levels slot) 0)) (alike && same_angles slot angles call.parameters) t in
      (s.0, and_t alike (same_angles slot angles call.parameters) s.1)

  pub body_kept : ¬ (slot_levels slot ≡ 0)
  body_kept e = T_not (eqb (slot_levels slot) 0) tests.0 (subst T (sym (eq-eqb (slot_levels slot) 0 e)) tt)

  pub body_alike : OpenedAlike call.gate (slot_levels slot) call.site.levels_left (slot_words slot)
  body_alike = alike_says call.gate (slot_levels slot) call.site.levels_left (slot_words slot) tests.1.0

  pub body_angles : T (same_angles slot angles call.parameters)
  body_angles = tests.1.1

-- ---- qubits

module _ (q : List ℕ) (n : ℕ) (h : n ≤ length q) where
  abbrev qubit : ℕ → ℕ
  qubit j = get_or q j 0

  front_is : map qubit (range 0 n) ≡ take n q
  front_is =
      ext_get_or 0 (map qubit (range 0 n)) (take n q) (length-map (range 0 n) qubit ∙ length_range 0 n ∙ sym (length-take-le n q h))
      (λ i l. let k : i < n = omega (arith, length-map (range 0 n) qubit, length_range 0 n) in
      entry_of_map qubit 0 n i 0 k ∙ ap qubit (zero-add i) ∙ sym (get_or-take n q i 0 k))

  found : {r : Prelude.Option (ℕ × ℕ)} → Overlaps q n r → overlap qubit [] (range 0 n) ≡ overlap_at 0 r
  found o = o.finds qubit 0 (λ j l. ap qubit (zero-add j))

  -- where no two of n arguments have one qubit, the first n qubits differ
  pub apart_differ : Overlaps q n None → true ≡ differ (take n q)
  apart_differ o = sym (holds _ (subst (λ (l : List ℕ). T (differ l)) front_is (no_overlap qubit [] (range 0 n) (found o)).0))

  -- where two of n arguments have one qubit, the first n qubits do not differ
  pub pair_same : {i j : ℕ} → Overlaps q n (Some (i, j)) → false ≡ differ (take n q)
  pair_same {i} {j} o = go (differ (take n q)) refl
    where
      go : (b : Bool) → differ (take n q) ≡ b → false ≡ b
      go true e =
          let none_is = differ_apart qubit [] (range 0 n) (subst (λ (l : List ℕ). T (differ l)) (sym front_is) (subst T (sym e) tt)) nil in
          absurd (let both : none ≡ some (0 + i, 0 + j) = sym none_is ∙ found o in let z : ◌≡◌ {A = ℕ} 0 1 = cc in omega arith)
      go false e = refl

  -- the first n qubits differ exactly where no overlap is found
  pub distinct_if_none : (b : Bool) (r : Prelude.Option (ℕ × ℕ)) → is_some r ≡ not b → Overlaps q n r → b ≡ differ (take n q)
  distinct_if_none true None e o = apart_differ o
  distinct_if_none false None e o = absurd (subst T (sym e) tt)
  distinct_if_none true (Some (i, j)) e o = absurd (subst T e tt)
  distinct_if_none false (Some (i, j)) e o = pair_same o

-- ---- a slot that was filled

-- a word that stands before others that were put
word_before : (k at : ℕ) (ws l : List ℕ) → k < at → get_or (sets l at ws) k 0 ≡ get_or l k 0
word_before k at [] l h = refl
word_before k at (w ∷ ws) l h = word_before k (suc at) ws (set l at w) (omega arith) ∙ get_or-set_other l at k w 0 (λ e. omega arith)

-- one of those that were put
word_put : (j at : ℕ) (ws l : List ℕ) → at + length ws ≤ length l → j < length ws → get_or (sets l at ws) (at + j) 0 ≡ get_or ws j 0
word_put j at ws l h k =
    sym (get_or-drop at (sets l at ws) j 0) ∙ sym (get_or-take (length ws) (drop at (sets l at ws)) j 0 k) ∙ ap (λ (m : List ℕ). get_or m j 0) (part_new at ws l h)

-- the words of angles, one angle after another
words_length : (xs : List Value) → length (flat_map words_of_value xs) ≡ 6 * length xs
unfolding flat_map
words_length [] = refl
words_length (x ∷ xs) = omega (arith, words_length xs)

word_of : (xs : List Value) (j k : ℕ) → k < 6 → j < length xs → get_or (flat_map words_of_value xs) (6 * j + k) 0 ≡ get_or (words_of_value (get_or xs j zero_value)) k 0
unfolding flat_map
word_of [] j k h l = absurd (omega arith)
word_of (x ∷ xs) zero k h l = ap (λ (i : ℕ). get_or (words_of_value x ++ flat_map words_of_value xs) i 0) (zero-add k) ∙ get_or-append (words_of_value x) (flat_map words_of_value xs) 0 k h
word_of (x ∷ xs) (suc j) k h l =
    let e : 6 * suc j + k ≡ suc (suc (suc (suc (suc (suc (6 * j + k)))))) = omega arith in
    ap (λ (i : ℕ). get_or (words_of_value x ++ flat_map words_of_value xs) i 0) e ∙ word_of xs j k h (omega arith)

sign_back : (b : Bool) → eqb (cond b 1 0) 1 ≡ b
sign_back true = refl
sign_back false = refl

-- an angle that is read back from its words
value_back : (slot : List ℕ) (p : ℕ) (x : Value) → ((k : ℕ) → k < 6 → get_or slot (p + k) 0 ≡ get_or (words_of_value x) k 0) → value_at slot p ≡ x
value_back slot p x h =
    let z : get_or slot p 0 ≡ get_or slot (p + 0) 0 = ap (λ (i : ℕ). get_or slot i 0) (sym (add-zero p)) in
    λ i. record {
      a = record { negative = (ap (λ (w : ℕ). eqb w 1) (z ∙ h 0 (omega arith)) ∙ sign_back x.a.negative) i; numer = h 1 (omega arith) i; denom = h 2 (omega arith) i };
      b = record { negative = (ap (λ (w : ℕ). eqb w 1) (h 3 (omega arith)) ∙ sign_back x.b.negative) i; numer = (later 1 ∙ h 4 (omega arith)) i; denom = (later 2 ∙ h 5 (omega arith)) i };
    }
  where
    later : (k : ℕ) → get_or slot (p + 3 + k) 0 ≡ get_or slot (p + (3 + k)) 0
    later k = let e : p + 3 + k ≡ p + (3 + k) = omega arith in ap (λ (i : ℕ). get_or slot i 0) e

pub slot_filled : (slot qubits : List ℕ) (angles : List Value) (levels start words records : ℕ) (call : Call) {slot₁ slot₂ : List ℕ} → slot_need call.parameters call.arguments ≤ length slot → call.parameters ≤ length angles → call.arguments ≤ length qubits
    → slot₁ ≡ sets (set (set (set (set slot 0 levels) 1 start) 2 words) 3 records) 4 (flat_map words_of_value (take call.parameters angles)) → slot₂ ≡ sets slot₁ (4 + 6 * call.parameters) (take call.arguments qubits)
    → SlotFilled slot₂ levels start words records call angles qubits
slot_filled slot qubits angles levels start words records call {slot₁} {slot₂} need some-angles some-qubits e₁ e₂ =
    let p : ℕ = call.parameters in
    let n : ℕ = 6 * call.parameters in
    let m : ℕ = call.arguments in
    let numbers : List ℕ = set (set (set (set slot 0 levels) 1 start) 2 words) 3 records in
    let long : length numbers ≡ length slot = length-set (set (set (set slot 0 levels) 1 start) 2 words) 3 records ∙ length-set (set (set slot 0 levels) 1 start) 2 words ∙ length-set (set slot 0 levels) 1 start ∙ length-set slot 0 levels in
    let qubit_words : length (take m qubits) ≡ m = length-take-le m qubits some-qubits in
    let given : List Value = take p angles in
    let some : length given ≡ p = length-take-le p angles some-angles in
    let angle_words : List ℕ = flat_map words_of_value given in
    let angle_words_lem : length angle_words ≡ n = words_length given ∙ ap (λ (k : ℕ). 6 * k) some in
    let long₁ : length slot₁ ≡ length slot = ap length e₁ ∙ length-sets numbers 4 angle_words ∙ long in
    let number : (k : ℕ) → k < 4 → get_or slot₂ k 0 ≡ get_or numbers k 0 = λ k h.
    ap (λ (l : List ℕ). get_or l k 0) e₂ ∙ word_before k (4 + n) (take m qubits) slot₁ (omega arith) ∙ ap (λ (l : List ℕ). get_or l k 0) e₁ ∙ word_before k 4 angle_words numbers h in
    let angle_word : (i : ℕ) → i < n → get_or slot₂ (4 + i) 0 ≡ get_or angle_words i 0 = λ i h.
    ap (λ (l : List ℕ). get_or l (4 + i) 0) e₂ ∙ word_before (4 + i) (4 + n) (take m qubits) slot₁ (omega arith) ∙ ap (λ (l : List ℕ). get_or l (4 + i) 0) e₁ ∙ word_put i 4 angle_words numbers (omega (arith, long, angle_words_lem, need)) (omega (arith, angle_words_lem)) in
    record {
      levels_are = number 0 (omega arith) ∙ first_number slot levels start words records (omega (arith, need));
      start_is = number 1 (omega arith) ∙ second_number slot levels start words records (omega (arith, need));
      words_are = number 2 (omega arith) ∙ third_number slot levels start words records (omega (arith, need));
      records_are = number 3 (omega arith) ∙ get_or-set_same (set (set (set slot 0 levels) 1 start) 2 words) 3 records 0 (omega (arith, need, length-set (set (set slot 0 levels) 1 start) 2 words, length-set (set slot 0 levels) 1 start, length-set slot 0 levels));
      angles_are = slot_angles_are slot₂ angles p some-angles (λ j h. value_back slot₂ (4 + 6 * j) (get_or angles j zero_value) (λ k l.
          let e : 4 + 6 * j + k ≡ 4 + (6 * j + k) = omega arith in
          ap (λ (i : ℕ). get_or slot₂ i 0) e ∙ angle_word (6 * j + k) (omega arith) ∙ word_of given j k l (omega (arith, some)) ∙ ap (λ (x : Value). get_or (words_of_value x) k 0) (get_or-take p angles j zero_value h)));
      qubits_are =
          ap (λ (l : List ℕ). take m (drop (4 + n) l)) e₂ ∙ ap (λ (k : ℕ). take k (drop (4 + n) (sets slot₁ (4 + n) (take m qubits)))) (sym qubit_words)
          ∙ part_new (4 + n) (take m qubits) slot₁ (omega (arith, long₁, qubit_words, need));
    }
  where
    first_number : (slot : List ℕ) (a b c d : ℕ) → 3 < length slot → get_or (set (set (set (set slot 0 a) 1 b) 2 c) 3 d) 0 0 ≡ a
    first_number [] a b c d h = absurd (omega arith)
    first_number (x ∷ []) a b c d h = refl
    first_number (x ∷ y ∷ l) a b c d h = refl

    second_number : (slot : List ℕ) (a b c d : ℕ) → 3 < length slot → get_or (set (set (set (set slot 0 a) 1 b) 2 c) 3 d) 1 0 ≡ b
    second_number [] a b c d h = absurd (omega arith)
    second_number (x ∷ []) a b c d h = absurd (omega arith)
    second_number (x ∷ y ∷ l) a b c d h = refl

    third_number : (slot : List ℕ) (a b c d : ℕ) → 3 < length slot → get_or (set (set (set (set slot 0 a) 1 b) 2 c) 3 d) 2 0 ≡ c
    third_number [] a b c d h = absurd (omega arith)
    third_number (x ∷ []) a b c d h = absurd (omega arith)
    third_number (x ∷ y ∷ []) a b c d h = absurd (omega arith)
    third_number (x ∷ y ∷ z ∷ l) a b c d h = refl

-- no angle of some
pub angles_none : (slot : List ℕ) (angles : List Value) → slot ≡ sets slot 4 (flat_map words_of_value (take 0 angles))
unfolding flat_map
angles_none slot angles = refl

-- one angle more of them
pub angles_next : (slot : List ℕ) (angles : List Value) (i : ℕ) {slot' slot'' : List ℕ} → i < length angles → slot' ≡ sets slot 4 (flat_map words_of_value (take i angles)) → slot'' ≡ sets slot' (4 + 6 * i) (words_of_value (get_or angles i zero_value))
    → slot'' ≡ sets slot 4 (flat_map words_of_value (take (i + 1) angles))
unfolding flat_map
angles_next slot angles i h e f =
    let long : length (flat_map words_of_value (take i angles)) ≡ 6 * i = words_length (take i angles) ∙ ap (λ (k : ℕ). 6 * k) (length-take-le i angles (omega arith)) in
    f ∙ put_more slot 4 (4 + 6 * i) (flat_map words_of_value (take i angles)) (words_of_value (get_or angles i zero_value)) (omega (arith, long)) e refl
    ∙ rw (add-one i, take-suc angles i zero_value h, flat_append words_of_value (take i angles) (get_or angles i zero_value ∷ []), append-nil (words_of_value (get_or angles i zero_value))) refl

-- ---- the width of slots

-- a width is enough for the bodies of the first n gates
pub record WideFor (image : List ℕ) (n width : ℕ) : Type 0 where
  pub narrow : width ≤ most_slot_words
  pub each : (g : ℕ) → g < n → slot_need (gate_parameters image g) (gate_arguments image g) ≤ width

pub wide_next : {image : List ℕ} {n width : ℕ} → WideFor image n width → (need : ℕ) {width' : ℕ} → need ≡ slot_need (gate_parameters image n) (gate_arguments image n) → need ≤ most_slot_words → width' ≡ max width need → WideFor image (n + 1) width'
wide_next {image} {n} {width} w need {width'} e few d =
    record { narrow = omega (arith, d, max-le w.narrow few); each = λ g h. go g (eq-or-lt_of_le (omega arith)) }
  where
    go : (g : ℕ) → (g ≡ n) ⊎ (g < n) → slot_need (gate_parameters image g) (gate_arguments image g) ≤ width'
    go g (inl f) = rw f (omega (arith, e, d, le-max_right width need))
    go g (inr l) = omega (arith, w.each g l, d, le-max_left width need)

-- the two counts of a gate, as the code reads them
pub gate_read : {image : List ℕ} → Accepted image → (g : ℕ) {at n m : ℕ} → g < gates image → at ≡ gate_at image g → n ≡ word image at → m ≡ word image (at + 1) → ((n ≡ gate_parameters image g) × (n ≤ 16)) × ((m ≡ gate_arguments image g) × (m ≤ 16))
gate_read {image} acc g {n = n} {m = m} h e p q =
    let first : n ≡ gate_parameters image g = p ∙ ap (word image) e in
    let second : m ≡ gate_arguments image g = q ∙ ap (λ (a : ℕ). word image (a + 1)) e in
    ((first, omega (arith, first, few_parameters acc g h)), (second, omega (arith, second, few_arguments acc g h)))

-- its first count alone
pub parameters_read : {image : List ℕ} → Accepted image → (g : ℕ) {at n : ℕ} → g < gates image → at ≡ gate_at image g → n ≡ word image at → n ≤ 16
parameters_read {image} acc g {n = n} h e p = let first : n ≡ gate_parameters image g = p ∙ ap (word image) e in omega (arith, first, few_parameters acc g h)

-- ---- qubits put in turn

-- the next of some words
pub put_next_word : {out' : List ℕ} (out : List ℕ) (start i : ℕ) (ws : List ℕ) → i < length ws → out' ≡ sets out start (take i ws)
    → set out' (start + i) (get_or ws i 0) ≡ sets out start (take (i + 1) ws)
put_next_word out start i ws h e =
    let n = length-take-le i ws (omega arith) in
    put_more out start (start + i) (take i ws) (get_or ws i 0 ∷ []) (omega arith) e refl ∙ rw (add-one i, take-suc ws i 0) refl
