-- Angles as words, and the angles of a record.
use Prim.Native.Nat.{ℕ, ◌+◌, ◌-◌, ◌*◌, ◌^◌, ◌≤◌, ◌<◌}
use native.Mathlib.Numerals.{add-one}
use native.Mathlib.Omega.{arith}
use mathlib.Core.Path.{◌≡◌, refl, sym, ◌∙◌}
use mathlib.Core.Bool.{cond}
use mathlib.Core.List.{List, [], ◌∷◌, ◌++◌, flat_map, append-nil}
use lib.ListN.{length, set, take, get_or, replicate, length-append}
use lib.Seq.{sets, take-suc, length-take-le}
use Rattle.value.specs.declared.Value.{Value}
use Rattle.value.specs.Value.{Sound}
use Rattle.model.specs.Evaluate.{zero_value}
use Rattle.model.specs.Records.{Record, encode, kind, fields, fraction_words, angle_words}
use Rattle.model.proofs.ListLaws.{within, flat_append}
use Rattle.model.proofs.Lengths.{length_words}
use Rattle.record_writer.specs.Promise.{SoundAngles}
use Rattle.model.proofs.SetsLaws.{put_more, front}

-- the four words of an angle
pub angle_put : (x : Value) {m n : ℕ} → m ≡ cond x.a.negative (2 ^ 64 - x.a.numer) x.a.numer → n ≡ cond x.b.negative (2 ^ 64 - x.b.numer) x.b.numer → m ∷ x.a.denom ∷ n ∷ x.b.denom ∷ [] ≡ angle_words x
unfolding angle_words fraction_words
angle_put x e f = rw (e, f) refl

pub angle_sound : {angles : List Value} → SoundAngles angles → (i : ℕ) (d : Value) → i < 16 → Sound (get_or angles i d)
angle_sound {angles} s i d h = rw (within angles i d zero_value (omega (arith, s.sixteen))) (s.each i h)

-- one angle more
pub angles_none : (out : List ℕ) (start : ℕ) (angles : List Value) → out ≡ sets out start (flat_map angle_words (take 0 angles))
unfolding flat_map
angles_none out start angles = refl

pub angles_more : {out' out'' : List ℕ} (out : List ℕ) (start i : ℕ) (angles : List Value) (d : Value) → i < length angles → out' ≡ sets out start (flat_map angle_words (take i angles))
    → out'' ≡ sets out' (start + 4 * i) (angle_words (get_or angles i d)) → out'' ≡ sets out start (flat_map angle_words (take (i + 1) angles))
unfolding flat_map
angles_more out start i angles d h e f =
    let n = length_words (take i angles) in
    let m = length-take-le i angles (omega arith) in
    put_more out start (start + 4 * i) (flat_map angle_words (take i angles)) (angle_words (get_or angles i d)) (omega arith) e f
    ∙ rw (add-one i, take-suc angles i d, flat_append angle_words (take i angles) (get_or angles i d ∷ []), append-nil (angle_words (get_or angles i d))) refl

-- ---- records with angles

pub u_words : (theta phi lambda : Value) (qubit : ℕ) {a b c : List ℕ} → a ≡ sets (set (replicate 14 0) 0 1) 1 (angle_words theta) → b ≡ sets a 5 (angle_words phi) → c ≡ sets b 9 (angle_words lambda)
    → encode (Record.U theta phi lambda qubit) ≡ set c 13 qubit
unfolding encode kind fields angle_words fraction_words
u_words theta phi lambda qubit e f g = rw (g, f, e) refl

-- a U has 14 words
pub u_long : (theta phi lambda : Value) (qubit : ℕ) → 14 ≡ length (encode (Record.U theta phi lambda qubit))
unfolding encode kind fields angle_words fraction_words
u_long theta phi lambda qubit = refl

pub opaque_words : (gate p q : ℕ) (angles : List Value) (qubits : List ℕ) {a b : List ℕ} → length angles ≡ 16 → p ≤ 16 → length qubits ≡ 16 → q ≤ 16
    → a ≡ sets (set (set (set (set (replicate 84 0) 0 3) 1 gate) 2 p) 3 q) 4 (flat_map angle_words (take p angles)) → b ≡ sets a (4 + 4 * p) (take q qubits)
    → encode (Record.Opaque gate (take p angles) (take q qubits)) ≡ take (4 + 4 * p + q) b
unfolding encode kind fields
opaque_words gate p q angles qubits {a} {b} n h m k e f =
    let s = length-take-le p angles (omega arith) in
    let t = length-take-le q qubits (omega arith) in
    let u = length_words (take p angles) in
    let start : List ℕ = 3 ∷ gate ∷ p ∷ q ∷ [] in
    let ws = flat_map angle_words (take p angles) in
    let all : b ≡ sets (replicate 84 0) 0 ((start ++ ws) ++ take q qubits) =
    put_more (replicate 84 0) 0 (4 + 4 * p) (start ++ ws) (take q qubits) (omega arith) (put_more (replicate 84 0) 0 4 start ws refl refl e) f
    in
    let l : length ((start ++ ws) ++ take q qubits) ≡ 4 + 4 * p + q = simp length-append (omega arith) in
    rw (all, sym l, front ((start ++ ws) ++ take q qubits) (replicate 84 0) (omega arith), s, t) refl
