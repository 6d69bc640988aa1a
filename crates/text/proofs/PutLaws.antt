-- Bytes that are put behind bytes are put together.
use Prim.Native.Nat.{ℕ, ◌+◌, ◌≤◌, ◌<◌}
use native.Mathlib.Nat.{add-zero, zero-add}
use native.Mathlib.Numerals.{add-one}
use native.Mathlib.Omega.{arith}
use mathlib.Core.Path.{◌≡◌, refl, sym, ap, subst, ◌∙◌}
use mathlib.Core.List.{List, [], ◌∷◌, ◌++◌, append_assoc, append-nil}
use lib.ListN.{length, get_or, drop, length-append}
use lib.Seq.{length-sets, sets-eq, drop-cons}
use Rattle.model.proofs.PlayLaws.{sets_append}
use Rattle.text.specs.declared.Text.{Text}
use Rattle.text.specs.Put.{Room, Put, InFront}

pub put_none : {t : Text} → t.end ≤ length t.bytes.now → Put [] t t
put_none {t} h = record { contents = refl; ends = sym (add-zero t.end); fits = h; same = refl }

pub put_same : {a b : List ℕ} {t t' : Text} → a ≡ b → Put a t t' → Put b t t'
put_same {t = t} {t' = t'} e h = subst (λ (l : List ℕ). Put l t t') e h

pub put_length : {a : List ℕ} {t t' : Text} → Put a t t' → length t'.bytes.now ≡ length t.bytes.now
put_length {a} {t} h = ap length h.contents ∙ length-sets t.bytes.now t.end a

pub put_then : {a b : List ℕ} {t t' t'' : Text} → Put a t t' → Put b t' t'' → Put (a ++ b) t t''
put_then {a} {b} {t} h k =
    record {
      contents = k.contents ∙ rw (h.contents, h.ends) (sets_append t.bytes.now t.end a b);
      ends = omega (arith, h.ends, k.ends, length-append a b);
      fits = omega (arith, k.fits, put_length h);
      same = k.same ∙ h.same;
    }

-- ---- room for a part

pub room_same : {a b : List ℕ} {t : Text} → a ≡ b → Room a t → Room b t
room_same {t = t} e h = subst (λ (l : List ℕ). Room l t) e h

module _ {all a : List ℕ} (b : List ℕ) {t : Text} (e : all ≡ a ++ b) (h : Room all t) where
  pub room_front : Room a t
  room_front = record { room = omega (arith, h.room, ap length e, length-append a b) }

  pub room_rest : {t' : Text} → Put a t t' → Room b t'
  room_rest p = record { room = omega (arith, h.room, ap length e, length-append a b, p.ends, put_length p) }

-- ---- a text that is put part by part: what is put, and what is still to be put

pub record Putting (all rest : List ℕ) (t t' : Text) : Type 0 where
  pub before : List ℕ
  pub split : all ≡ before ++ rest
  pub done : Put before t t'

pub putting_start : (all : List ℕ) {t : Text} → t.end ≤ length t.bytes.now → Putting all all t t
putting_start all h = record { before = []; split = refl; done = put_none h }

module _ {all rest : List ℕ} {t t' : Text} (g : Putting all rest t t') where
  -- there is room for the next part
  pub putting_room : {part : List ℕ} (more : List ℕ) → rest ≡ part ++ more → Room all t → Room part t'
  putting_room more e h = room_front more e (room_rest rest g.split h g.done)

  pub putting_more : {part more : List ℕ} {t'' : Text} → rest ≡ part ++ more → Put part t' t'' → Putting all more t t''
  putting_more {part} {more} e h =
      record {
        before = g.before ++ part;
        split = g.split ∙ ap (λ (l : List ℕ). g.before ++ l) e ∙ sym (append_assoc g.before part more);
        done = put_then g.done h;
      }

  -- the rest is put
  pub putting_last : {t'' : Text} → Put rest t' t'' → Put all t t''
  putting_last h = put_same (sym g.split) (put_then g.done h)

  pub putting_end : rest ≡ [] → Put all t t'
  putting_end e = put_same (sym (g.split ∙ ap (λ (l : List ℕ). g.before ++ l) e ∙ append-nil g.before)) g.done

-- ---- bytes one by one

pub bytes_next : (bs : List ℕ) (i : ℕ) → i < length bs → drop i bs ≡ (get_or bs i 0 ∷ []) ++ drop (i + 1) bs
bytes_next bs i h = drop-cons bs i 0 h ∙ rw (add-one i) refl

-- ---- a whole text

-- what is put from the start on is laid over
pub in_front : {bytes text : List ℕ} {t t' : Text} → t.bytes.now ≡ text → t.end ≡ 0 → Put bytes t t' → InFront bytes text t'.end t'.bytes.now
in_front {bytes} {text} {t} e z p =
    record {
      contents = p.contents ∙ rw (e, z) (sets-eq bytes text 0 (omega (arith, p.ends, p.fits, ap length e)) ∙ rw zero-add refl);
      count = omega (arith, p.ends);
      inside = omega (arith, p.fits, put_length p);
    }
