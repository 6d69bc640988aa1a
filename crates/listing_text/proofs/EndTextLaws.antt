-- The closing lines of an answer are put one after the other.
use Prim.Native.Nat.{ℕ, suc, ◌+◌, ◌*◌, ◌/◌, ◌≤◌, ◌<◌}
use native.Mathlib.Numerals.{add-one}
use native.Mathlib.Omega.{arith}
use mathlib.Core.Path.{◌≡◌, refl, ap}
use mathlib.Core.List.{List, [], ◌∷◌, ◌++◌}
use lib.ListN.{length, get_or, drop, take, length-drop}
use lib.Seq.{drop-cons, length-take-le}
use Rattle.model.specs.Listing.{ascii, decimal, line, from_text, refused_text}
use Rattle.record_writer.specs.declared.LinearizeError.{LinearizeError}
use Rattle.record_writer.specs.declared.Position.{Position}
use Rattle.std.specs.Prelude.{Ok, Err}
use Rattle.record_writer.specs.Promise.{RunResult, position_of}
use Rattle.unit.specs.declared.Numbers.{Numbers}
use Rattle.unit.specs.AnswerNumbers.{RunNumbers, numbers_of}
use Rattle.text.specs.declared.Text.{Text}
use Rattle.text.specs.Put.{RoomFor, Put, PutMost}
use Rattle.text.proofs.PutLaws.{put_same, put_then, put_length, Putting, putting_start, putting_more, putting_end}
use Rattle.listing_text.specs.EndText.{end_text}

-- ---- the trace, pair by pair

from_next : (t : List ℕ) (i : ℕ) → i < length t / 2 → from_text (drop (2 * i) t) ≡ line (ascii "from" ∷ decimal (get_or t (2 * i) 0) ∷ decimal (get_or t (2 * i + 1) 0) ∷ []) ++ from_text (drop (2 * (i + 1)) t)
unfolding from_text
from_next t i h =
    let next : 2 * (i + 1) ≡ suc (suc (2 * i)) = omega arith in
    rw (drop-cons t (2 * i) 0 (omega arith), add-one (2 * i), drop-cons t (suc (2 * i)) 0 (omega arith), next) refl

from_end : (t : List ℕ) → length t ≤ 1 → from_text t ≡ []
unfolding from_text
from_end [] h = refl
from_end (a ∷ []) h = refl
from_end (a ∷ b ∷ t) h = absurd (omega arith)

-- the first i calls of a trace are put, and the others are still to be put
pub record Tracing (calls : List ℕ) (t : Text) (i : ℕ) (t' : Text) : Type 0 where
  pub puts : Putting (from_text calls) (from_text (drop (2 * i) calls)) t t'
  pub few : t'.end ≤ t.end + 48 * i

pub tracing_start : (calls : List ℕ) {t : Text} → RoomFor (24 * length calls) t → Tracing calls t 0 t
tracing_start calls h = record { puts = putting_start (from_text calls) (omega arith); few = omega arith }

module _ {calls : List ℕ} {t t' : Text} {i : ℕ} (g : Tracing calls t i t') where
  module _ (h : i < length calls / 2) where
    pub tracing_room : RoomFor (24 * length calls) t → RoomFor 48 t'
    tracing_room k = omega (arith, g.few, put_length g.puts.done)

    pub tracing_more : {t'' : Text} → PutMost (line (ascii "from" ∷ decimal (get_or calls (2 * i) 0) ∷ decimal (get_or calls (2 * i + 1) 0) ∷ [])) 48 t' t'' → Tracing calls t (i + 1) t''
    tracing_more p = record { puts = putting_more g.puts (from_next calls i h) p.put; few = omega (arith, g.few, p.few) }

  pub tracing_end : i ≡ length calls / 2 → PutMost (from_text calls) (24 * length calls) t t'
  tracing_end h =
      record {
        put = putting_end g.puts (from_end (drop (2 * i) calls) (omega (arith, length-drop (2 * i) calls)));
        few = omega (arith, g.few);
      }

-- ---- the whole end

pub end_done : {r : RunResult} {p : Position} (trace : List ℕ) {t t' : Text} → r ≡ Ok p
    → Put (line (ascii "done" ∷ decimal p.records ∷ [])) t t' → Put (end_text r trace) t t'
unfolding end_text
end_done trace e h = rw e h

module _ {r : RunResult} {x : LinearizeError} (trace : List ℕ) (e : r ≡ Err x) where
  -- the calls of a refused run
  abbrev calls : List ℕ
  calls = take x.at.trace trace

  pub calls_inside : (position_of r).trace ≤ length trace → x.at.trace ≤ length trace
  calls_inside h = rw e at h

  calls_few : (position_of r).trace ≤ length trace → length trace ≤ 256 → length calls ≤ 256
  calls_few h k = omega (arith, length-take-le x.at.trace trace (calls_inside h), calls_inside h)

  module _ {t t' : Text} (p : PutMost (from_text calls) (24 * length calls) t t') where
    pub last_room : (position_of r).trace ≤ length trace → length trace ≤ 256 → RoomFor 6400 t → RoomFor 71 t'
    last_room h k l = omega (arith, calls_few h k, p.few, put_length p.put)

    pub end_refused : {n : Numbers} {t'' : Text} → RunNumbers (Err x) n → Put (refused_text (numbers_of n)) t' t'' → Put (end_text r (take (position_of r).trace trace)) t t''
    unfolding end_text
    end_refused k q = rw e (put_then p.put (put_same (ap refused_text (k.each calls)) q))
