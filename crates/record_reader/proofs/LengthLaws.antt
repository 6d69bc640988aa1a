-- A record's length by its kind, and what stands at a position by the length that is found there.
use Prim.Native.Nat.{ℕ, ◌+◌, ◌-◌, ◌*◌, ◌≤◌, ◌<◌}
use native.Mathlib.Omega.{arith}
use mathlib.Core.Path.{◌≡◌, refl, sym, ap, ◌∙◌}
use mathlib.Core.Bool.{Bool, true, false, cond, ◌&&◌}
use mathlib.Core.List.{List, [], ◌∷◌}
use lib.Dec.{leb, ltb, eqb}
use lib.ListN.{length, get_or, take, drop, get_or-eq_default, length-drop}
use lib.Seq.{length-take-le, take-length}
use borrow.Author.Tests.{le-leb, lt-ltb, le-ltb, leb-true, ltb-true, ltb-false, eqb-true, eqb-false}
use Rattle.std.specs.Prelude.{Option, Some, None, Result, Ok, Err, IsErr}
use Rattle.std.specs.Result.{result_ok}
use Rattle.record_kind.specs.declared.RecordKind.{RecordKind}
use Rattle.record_kind.specs.declared.UnknownKind.{UnknownKind}
use Rattle.record_kind.specs.Kind.{number_of, KindOf}
use Rattle.record_reader.specs.declared.NoRecord.{NoRecord}
use Rattle.record_reader.specs.Answer.{length_within, whole_length, next_record_of, next_words_of}
use Rattle.model.specs.RecordReader.{Next, next, end, wrong, record_length, next_at}

-- ---- the kind that a number was read as

pub known_kind : {n : ℕ} {k : RecordKind} {o : Option RecordKind} (r : Result RecordKind UnknownKind) → KindOf n r → o ≡ result_ok r → o ≡ Some k → n ≡ number_of k
known_kind {n} {k} (Ok x) h e d = let z : x ≡ k = cc in h ∙ ap number_of z
known_kind (Err e) h f d = absurd (let z : ◌≡◌ {A = ℕ} 0 1 = cc in omega arith)

pub unknown_kind : {n : ℕ} {o : Option RecordKind} (r : Result RecordKind UnknownKind) → KindOf n r → o ≡ result_ok r → o ≡ None → 9 ≤ n
unknown_kind (Ok x) h e d = absurd (let z : ◌≡◌ {A = ℕ} 0 1 = cc in omega arith)
unknown_kind (Err e) h f d = h

-- ---- the length by the kind

module _ (ws : List ℕ) where
  abbrev pub lengths_by_kind : List ℕ
  lengths_by_kind = (3 + 2 * (get_or ws 1 0 + get_or ws 2 0)) ∷ 14 ∷ 3 ∷ (4 + 4 * get_or ws 2 0 + get_or ws 3 0) ∷ (2 + get_or ws 1 0) ∷ 3 ∷ 2 ∷ 4 ∷ 1 ∷ []

  pub of_kind_lem : (k kind available n r : ℕ) → kind ≡ get_or ws 0 0 → kind ≡ k → get_or lengths_by_kind k 0 ≡ n → r ≡ cond (leb n available) n 0 → r ≡ cond (leb (record_length ws) available) (record_length ws) 0
  unfolding record_length
  of_kind_lem k kind available n r e d f h = let z : record_length ws ≡ n = rw (sym e ∙ d) f in h ∙ sym (rw z refl)

  pub of_kind : (k n : ℕ) {r : Option ℕ} → get_or ws 0 0 ≡ k → get_or lengths_by_kind k 0 ≡ n → 1 ≤ n → r ≡ length_within (length ws) n → r ≡ whole_length ws
  unfolding record_length
  of_kind k n e f h d = let z : record_length ws ≡ n = rw e f in d ∙ sym (rw (z, le-leb 1 n h) refl)

  pub of_none : 9 ≤ get_or ws 0 0 → None ≡ whole_length ws
  unfolding record_length
  of_none h = let z : record_length ws ≡ 0 = get_or-eq_default lengths_by_kind 0 h in sym (rw z refl)

  -- a length that is found is within the words
  pub found_fits : (n : ℕ) → Some n ≡ whole_length ws → n ≤ length ws
  found_fits n d = go (leb 1 (record_length ws)) (leb (record_length ws) (length ws)) refl d
    where
      go : (b c : Bool) → leb (record_length ws) (length ws) ≡ c → Some n ≡ cond b (cond c (Some (record_length ws)) None) None → n ≤ length ws
      go true true f d = let z : n ≡ record_length ws = cc in omega (arith, leb-true (record_length ws) (length ws) f)
      go true false f d = absurd (let z : ◌≡◌ {A = ℕ} 0 1 = cc in omega arith)
      go false c f d = absurd (let z : ◌≡◌ {A = ℕ} 0 1 = cc in omega arith)

-- ---- what stands at a position

-- the record of the length that is found, or none
abbrev pub by_length : List ℕ → Option ℕ → Next
by_length ws (Some n) = next (take n ws)
by_length ws None = wrong

tested : (b c : Bool) (n : ℕ) (ws : List ℕ) → cond (b && c) (next (take n ws)) wrong ≡ by_length ws (cond b (cond c (Some n) None) None)
tested true true n ws = refl
tested true false n ws = refl
tested false c n ws = refl

module _ (ws : List ℕ) (at : ℕ) where
  -- the words from a position on, as a part of the slice
  pub rest : take (length ws - at) (drop at ws) ≡ drop at ws
  rest = ap (λ (k : ℕ). take k (drop at ws)) (sym (length-drop at ws)) ∙ take-length (drop at ws)

  pub next_is : at < length ws → next_at ws at ≡ by_length (drop at ws) (whole_length (drop at ws))
  unfolding next_at
  next_is h = let m = record_length (drop at ws) in rw (lt-ltb at (length ws) h, length-drop at ws) (tested (leb 1 m) (leb m (length ws - at)) m (drop at ws))

  pub at_end : at ≡ length ws → end ≡ next_at ws at
  unfolding next_at
  at_end e = sym (rw (le-ltb at (length ws) (omega arith), le-ltb (length ws) at (omega arith)) refl)

  pub past_end : ¬ (at < length ws) → ¬ (at ≡ length ws) → wrong ≡ next_at ws at
  unfolding next_at
  past_end h e = sym (rw (le-ltb at (length ws) (omega arith), lt-ltb (length ws) at (omega arith)) refl)

  -- the length that is answered is the record's
  pub answered_length : (n : ℕ) → at < length ws → Some n ≡ whole_length (drop at ws) → Ok (Some n) ≡ next_record_of (next_at ws at)
  answered_length n h e =
      let size : length (take n (drop at ws)) ≡ n = length-take-le n (drop at ws) (found_fits (drop at ws) n e) in
      rw (next_is h, sym e, size) refl

  pub no_record : at < length ws → None ≡ whole_length (drop at ws) → wrong ≡ next_at ws at
  no_record h e = sym (next_is h ∙ ap (by_length (drop at ws)) (sym e))

  -- the part that is handed back is the record
  pub record_part : (n : ℕ) → Ok (Some n) ≡ next_record_of (next_at ws at) → (take (at + n - at) (drop at ws) ≡ next_words_of (next_at ws at)) × (at + n ≤ length ws)
  record_part n e = go (ltb at (length ws)) refl
    where
      back : at + n - at ≡ n
      back = omega arith

      within : (o : Option ℕ) → at < length ws → o ≡ whole_length (drop at ws) → Ok (Some n) ≡ next_record_of (by_length (drop at ws) o) → (take (at + n - at) (drop at ws) ≡ next_words_of (by_length (drop at ws) o)) × (at + n ≤ length ws)
      within (Some m) h d f =
          let fits : m ≤ length (drop at ws) = found_fits (drop at ws) m d in
          let size : length (take m (drop at ws)) ≡ m = length-take-le m (drop at ws) fits in
          let same : n ≡ m = let z : n ≡ length (take m (drop at ws)) = cc in z ∙ size in
          (rw (back, same) refl, omega (arith, fits, same, length-drop at ws))
      within None h d f = absurd (let z : ◌≡◌ {A = ℕ} 0 1 = cc in omega arith)

      go : (b : Bool) → ltb at (length ws) ≡ b → (take (at + n - at) (drop at ws) ≡ next_words_of (next_at ws at)) × (at + n ≤ length ws)
      go true t = let h : at < length ws = ltb-true at (length ws) t in rw (next_is h) (within (whole_length (drop at ws)) h refl (e ∙ ap next_record_of (next_is h)))
      go false t = absurd (outside (eqb at (length ws)) refl)
        where
          outside : (b : Bool) → eqb at (length ws) ≡ b → ⊥
          outside true k = let z : Ok (Some n) ≡ next_record_of end = e ∙ ap next_record_of (sym (at_end (eqb-true at (length ws) k))) in let y : ◌≡◌ {A = ℕ} 0 1 = cc in omega arith
          outside false k = let z : Ok (Some n) ≡ next_record_of wrong = e ∙ ap next_record_of (sym (past_end (λ h. omega (arith, ltb-false at (length ws) t)) (eqb-false at (length ws) k))) in let y : ◌≡◌ {A = ℕ} 0 1 = cc in omega arith

-- an answer that is an error is that of no record
pub the_error : (r : Result (Option ℕ) NoRecord) → IsErr r → r ≡ Err (record {})
the_error (Ok x) h = absurd (let z : ◌≡◌ {A = ℕ} 0 1 = cc in omega arith)
the_error (Err e) h = refl
