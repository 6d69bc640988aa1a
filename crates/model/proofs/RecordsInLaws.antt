-- A long input is read in parts: the records of a front, and from where they end on the rest's, are those of one reading.
use Prim.Native.Nat.{ℕ, zero, suc, ◌+◌, ◌-◌, ◌*◌, ◌≤◌}
use native.Mathlib.Nat.{not-suc-le-zero}
use native.Mathlib.Omega.{arith}
use mathlib.Core.Path.{◌≡◌, refl, sym, ap, ap₂, subst, ◌∙◌}
use mathlib.Core.Bool.{Bool, true, false, cond, ◌&&◌}
use mathlib.Core.List.{List, [], ◌∷◌, ◌++◌, map}
use borrow.Author.Tests.{lt-ltb, le-ltb, le-leb, leb-true, ltb-true, ltb-false}
use lib.Dec.{leb, ltb}
use lib.ListN.{length, get_or, take, drop, length-drop}
use lib.Seq.{drop-drop, length-take-le, take-take}
use Rattle.model.specs.Lists.{sum}
use Rattle.model.specs.RecordReader.{Next, next, end, wrong, record_length, next_at, found, records_from, records_in}
use Rattle.model.proofs.ListLaws.{drop_take}

-- ---- what stands at a position depends on the words from there on alone

shift : (ws : List ℕ) (at : ℕ) → at ≤ length ws → next_at ws at ≡ next_at (drop at ws) 0
unfolding next_at
shift ws at h = rw (length-drop at ws) (go (ltb at (length ws)) refl)
  where
    n : ℕ
    n = record_length (drop at ws)

    left : ℕ
    left = length ws - at

    go : (b : Bool) → ltb at (length ws) ≡ b
        → cond (ltb at (length ws)) (cond (leb 1 n && leb n left) (next (take n (drop at ws))) wrong) (cond (ltb (length ws) at) wrong end)
        ≡ cond (ltb 0 left) (cond (leb 1 n && leb n (left - 0)) (next (take n (drop at ws))) wrong) (cond (ltb left 0) wrong end)
    go true e =
        let whole : left - 0 ≡ left = omega arith in
        rw (e, lt-ltb 0 left (omega (arith, ltb-true at (length ws) e)), whole) refl
    go false e =
        let k = ltb-false at (length ws) e in
        rw (e, le-ltb (length ws) at h, le-ltb 0 left (omega arith), le-ltb left 0 (omega arith)) refl

-- ---- the first record

-- some words begin with a record of n words, or with none
data First (ws : List ℕ) (x : Next) : Type 0 where
  one : (n : ℕ) → n ≡ record_length ws → x ≡ next (take n ws) → 1 ≤ n → n ≤ length ws → First ws x
  none : ((at : ℕ) (more : ℕ → List (List ℕ)) → found x at more ≡ []) → First ws x

first : (ws : List ℕ) → First ws (next_at ws 0)
unfolding next_at found
first ws = go (ltb 0 (length ws)) (leb 1 n) (leb n (length ws - 0)) (ltb (length ws) 0) refl refl
  where
    n : ℕ
    n = record_length ws

    go : (a b c d : Bool) → leb 1 n ≡ b → leb n (length ws - 0) ≡ c → First ws (cond a (cond (b && c) (next (take n ws)) wrong) (cond d wrong end))
    go true true true d p q = one n refl refl (leb-true 1 n p) (omega (arith, leb-true n (length ws - 0) q))
    go true true false d p q = none (λ at more. refl)
    go true false c d p q = none (λ at more. refl)
    go false b c true p q = none (λ at more. refl)
    go false b c false p q = none (λ at more. refl)

-- the records from a position on are those of the words from there on
from_there : (k : ℕ) (ws : List ℕ) (at : ℕ) → at ≤ length ws → records_from k ws at ≡ records_from k (drop at ws) 0
unfolding records_from found
from_there zero ws at h = refl
from_there (suc k) ws at h = rw (shift ws at h) (go (from_there k) (next_at rest 0) (first rest))
  where
    rest : List ℕ
    rest = drop at ws

    go : ((vs : List ℕ) (i : ℕ) → i ≤ length vs → records_from k vs i ≡ records_from k (drop i vs) 0) → (x : Next) → First rest x → found x at (records_from k ws) ≡ found x 0 (records_from k rest)
    go there x (one n d e p q) =
        let size = length-take-le n rest q in
        let here : n ≡ 0 + length (take n rest) = omega (arith, size) in
        rw e
        (ap (λ (l : List (List ℕ)). take n rest ∷ l)
        (ap (λ (j : ℕ). records_from k ws (at + j)) size ∙ there ws (at + n) (omega (arith, length-drop at ws))
        ∙ ap (λ (l : List ℕ). records_from k l 0) (sym (drop-drop n at ws)) ∙ sym (there rest n q) ∙ ap (records_from k rest) here))
    go there x (none m) = m at (records_from k ws) ∙ sym (m 0 (records_from k rest))

-- behind the first record are those of the words behind it
behind : (k n : ℕ) (ws : List ℕ) → n ≤ length ws → records_from k ws (0 + length (take n ws)) ≡ records_from k (drop n ws) 0
behind k n ws h =
    let there : 0 + length (take n ws) ≡ n = omega (arith, length-take-le n ws h) in
    ap (records_from k ws) there ∙ from_there k ws n h

-- ---- how many records are read at most does not matter where it is no less than the words

no_words : (k : ℕ) (ws : List ℕ) → length ws ≤ 0 → records_from k ws 0 ≡ []
unfolding records_from
no_words zero ws h = refl
no_words (suc k) ws h = go (next_at ws 0) (first ws)
  where
    go : (x : Next) → First ws x → found x 0 (records_from k ws) ≡ []
    go x (one n d e p q) = absurd (omega arith)
    go x (none m) = m 0 (records_from k ws)

enough : (j k : ℕ) (ws : List ℕ) → length ws ≤ j → length ws ≤ k → records_from j ws 0 ≡ records_from k ws 0
unfolding records_from found
enough zero k ws p q = sym (no_words k ws p)
enough (suc j) zero ws p q = no_words (suc j) ws q
enough (suc j) (suc k) ws p q = go (enough j k) (next_at ws 0) (first ws)
  where
    go : ((vs : List ℕ) → length vs ≤ j → length vs ≤ k → records_from j vs 0 ≡ records_from k vs 0) → (x : Next) → First ws x → found x 0 (records_from j ws) ≡ found x 0 (records_from k ws)
    go same x (one n d e u v) =
        rw e
        (ap (λ (l : List (List ℕ)). take n ws ∷ l)
        (behind j n ws v ∙ same (drop n ws) (omega (arith, length-drop n ws)) (omega (arith, length-drop n ws)) ∙ sym (behind k n ws v)))
    go same x (none m) = m 0 (records_from j ws) ∙ sym (m 0 (records_from k ws))

-- ---- a record of a front is one of the whole

-- a record's length by its first four words
abbrev by_words : ℕ → ℕ → ℕ → ℕ → ℕ
by_words w a b c = get_or ((3 + 2 * (a + b)) ∷ 14 ∷ 3 ∷ (4 + 4 * b + c) ∷ (2 + a) ∷ 3 ∷ 2 ∷ 4 ∷ 1 ∷ []) w 0

-- a record of one word, of at most two, of at most three: the words behind do not matter
one_word : (w a b c : ℕ) → 1 ≤ by_words w 0 0 0 → by_words w 0 0 0 ≤ 1 → by_words w a b c ≡ by_words w 0 0 0
one_word zero a b c p q = absurd (omega arith)
one_word (suc zero) a b c p q = absurd (omega arith)
one_word (suc (suc zero)) a b c p q = absurd (omega arith)
one_word (suc (suc (suc zero))) a b c p q = absurd (omega arith)
one_word (suc (suc (suc (suc zero)))) a b c p q = absurd (omega arith)
one_word (suc (suc (suc (suc (suc zero))))) a b c p q = absurd (omega arith)
one_word (suc (suc (suc (suc (suc (suc zero)))))) a b c p q = absurd (omega arith)
one_word (suc (suc (suc (suc (suc (suc (suc zero))))))) a b c p q = absurd (omega arith)
one_word (suc (suc (suc (suc (suc (suc (suc (suc zero)))))))) a b c p q = refl
one_word (suc (suc (suc (suc (suc (suc (suc (suc (suc w))))))))) a b c p q = absurd (omega arith)

two_words : (w a b c : ℕ) → 1 ≤ by_words w a 0 0 → by_words w a 0 0 ≤ 2 → by_words w a b c ≡ by_words w a 0 0
two_words zero a b c p q = absurd (omega arith)
two_words (suc zero) a b c p q = absurd (omega arith)
two_words (suc (suc zero)) a b c p q = absurd (omega arith)
two_words (suc (suc (suc zero))) a b c p q = absurd (omega arith)
two_words (suc (suc (suc (suc zero)))) a b c p q = refl
two_words (suc (suc (suc (suc (suc zero))))) a b c p q = absurd (omega arith)
two_words (suc (suc (suc (suc (suc (suc zero)))))) a b c p q = refl
two_words (suc (suc (suc (suc (suc (suc (suc zero))))))) a b c p q = absurd (omega arith)
two_words (suc (suc (suc (suc (suc (suc (suc (suc zero)))))))) a b c p q = refl
two_words (suc (suc (suc (suc (suc (suc (suc (suc (suc w))))))))) a b c p q = absurd (omega arith)

three_words : (w a b c : ℕ) → 1 ≤ by_words w a b 0 → by_words w a b 0 ≤ 3 → by_words w a b c ≡ by_words w a b 0
three_words zero a b c p q = refl
three_words (suc zero) a b c p q = absurd (omega arith)
three_words (suc (suc zero)) a b c p q = refl
three_words (suc (suc (suc zero))) a b c p q = absurd (omega arith)
three_words (suc (suc (suc (suc zero)))) a b c p q = refl
three_words (suc (suc (suc (suc (suc zero))))) a b c p q = refl
three_words (suc (suc (suc (suc (suc (suc zero)))))) a b c p q = refl
three_words (suc (suc (suc (suc (suc (suc (suc zero))))))) a b c p q = absurd (omega arith)
three_words (suc (suc (suc (suc (suc (suc (suc (suc zero)))))))) a b c p q = refl
three_words (suc (suc (suc (suc (suc (suc (suc (suc (suc w))))))))) a b c p q = absurd (omega arith)

whole_length : (m : ℕ) (ws : List ℕ) → m ≤ length ws → 1 ≤ record_length (take m ws) → record_length (take m ws) ≤ m → record_length ws ≡ record_length (take m ws)
unfolding record_length
whole_length zero ws h p q = absurd (omega arith)
whole_length (suc m) [] h p q = absurd (not-suc-le-zero h)
whole_length (suc zero) (x ∷ l) h p q = one_word x (get_or l 0 0) (get_or l 1 0) (get_or l 2 0) p q
whole_length (suc (suc m)) (x ∷ []) h p q = absurd (omega arith)
whole_length (suc (suc zero)) (x ∷ y ∷ l) h p q = two_words x y (get_or l 0 0) (get_or l 1 0) p q
whole_length (suc (suc (suc m))) (x ∷ y ∷ []) h p q = absurd (omega arith)
whole_length (suc (suc (suc zero))) (x ∷ y ∷ z ∷ l) h p q = three_words x y z (get_or l 0 0) p q
whole_length (suc (suc (suc (suc m)))) (x ∷ y ∷ z ∷ []) h p q = absurd (omega arith)
whole_length (suc (suc (suc (suc m)))) (x ∷ y ∷ z ∷ w ∷ l) h p q = refl

next_is : (ws : List ℕ) (n : ℕ) → n ≡ record_length ws → 1 ≤ n → n ≤ length ws → next_at ws 0 ≡ next (take n ws)
unfolding next_at
next_is ws n d p q = rw (sym d, lt-ltb 0 (length ws) (omega arith), le-leb 1 n p, le-leb n (length ws - 0) (omega arith)) refl

-- ---- reading on

-- some records are read first, and the rest from where they end on
abbrev Goes : ℕ → List ℕ → List (List ℕ) → Type 0
Goes k ws rs = records_from k ws 0 ≡ rs ++ records_from k (drop (sum (map length rs)) ws) 0

goes_one : (k n : ℕ) (ws : List ℕ) (rs : List (List ℕ)) → next_at ws 0 ≡ next (take n ws) → 1 ≤ n → n ≤ length ws → length ws ≤ suc k → Goes k (drop n ws) rs → Goes (suc k) ws (take n ws ∷ rs)
unfolding records_from found sum
goes_one k n ws rs e p q h on =
    let further : ℕ = sum (map length rs) in
    let size : n + further ≡ length (take n ws) + further = omega (arith, length-take-le n ws q) in
    let rest : List ℕ = drop (n + further) ws in
    let left : length rest ≤ k = omega (arith, length-drop (n + further) ws) in
    rw e
    (ap (λ (l : List (List ℕ)). take n ws ∷ l)
    (behind k n ws q ∙ on
    ∙ ap (λ (l : List (List ℕ)). rs ++ l)
    (ap (λ (l : List ℕ). records_from k l 0) (drop-drop further n ws) ∙ enough k (suc k) rest left (omega arith) ∙ ap (λ (i : ℕ). records_from (suc k) (drop i ws) 0) size)))

goes_on : (j k m : ℕ) (ws : List ℕ) → length ws ≤ k → m ≤ length ws → Goes k ws (records_from j (take m ws) 0)
unfolding records_from found sum
goes_on zero k m ws h l = refl
goes_on (suc j) zero m ws h l = ap (λ (r : List (List ℕ)). r ++ []) (sym (no_words (suc j) (take m ws) (omega (arith, length-take-le m ws l))))
goes_on (suc j) (suc k) m ws h l = go (next_at (take m ws) 0) (first (take m ws)) (goes_on j k)
  where
    go : (x : Next) → First (take m ws) x → ((i : ℕ) (vs : List ℕ) → length vs ≤ k → i ≤ length vs → Goes k vs (records_from j (take i vs) 0)) → Goes (suc k) ws (found x 0 (records_from j (take m ws)))
    go x (none e) on = subst (Goes (suc k) ws) (sym (e 0 (records_from j (take m ws)))) refl
    go x (one n d e p q) on =
        let fits : n ≤ m = omega (arith, length-take-le m ws l) in
        let same : n ≡ record_length ws = d ∙ sym (whole_length m ws l (omega arith) (omega arith)) in
        let read : found x 0 (records_from j (take m ws)) ≡ take n ws ∷ records_from j (take (m - n) (drop n ws)) 0 =
        rw e (ap₂ ◌∷◌ (take-take n m ws fits) (behind j n (take m ws) q ∙ ap (λ (vs : List ℕ). records_from j vs 0) (drop_take n m ws fits)))
        in
        subst (Goes (suc k) ws) (sym read)
        (goes_one k n ws (records_from j (take (m - n) (drop n ws)) 0) (next_is ws n same p (omega arith)) p (omega arith) h (on (m - n) (drop n ws) (omega (arith, length-drop n ws)) (omega (arith, length-drop n ws))))

-- the records of a long input, read in parts
pub going_on : (m : ℕ) (ws : List ℕ) → m ≤ length ws → records_in ws ≡ records_in (take m ws) ++ records_in (drop (sum (map length (records_in (take m ws)))) ws)
unfolding records_in
going_on m ws l =
    let p : ℕ = sum (map length (records_in (take m ws))) in
    let rest : List ℕ = drop p ws in
    let few : length rest ≤ length ws = omega (arith, length-drop p ws) in
    goes_on (length (take m ws)) (length ws) m ws (omega arith) l ∙ ap (λ (rs : List (List ℕ)). records_in (take m ws) ++ rs) (enough (length ws) (length rest) rest few (omega arith))
