-- What the functions that put bytes into a text promise.
use Rattle.std.specs.Prelude.{ℕ, ◌+◌, ◌≤◌, ◌≡◌, List, length}
use Rattle.std.proofs.lemmas.List.Edits.{sets}
use Rattle.model.specs.Run.{laid_over}
use Rattle.text.specs.declared.Text.{Text}

-- there is room for so many bytes behind those that were put
abbrev pub RoomFor : ℕ → Text → Type 0
RoomFor n t = t.end + n ≤ length t.bytes.now

-- there is room for some bytes behind those that were put
pub record Room (bytes : List ℕ) (t : Text) : Type 0 where
  pub room : RoomFor (length bytes) t

-- some bytes were put behind those before, and the text stands where it stood
pub record Put (bytes : List ℕ) (t t' : Text) : Type 0 where
  pub contents : t'.bytes.now ≡ sets t.bytes.now t.end bytes
  pub ends : t'.end ≡ t.end + length bytes
  pub fits : t'.end ≤ length t.bytes.now
  pub same : t'.bytes.ghost_name ≡ t.bytes.ghost_name

-- some bytes were put, and so many at most
pub record PutMost (bytes : List ℕ) (most : ℕ) (t t' : Text) : Type 0 where
  pub put : Put bytes t t'
  pub few : t'.end ≤ t.end + most

-- some bytes stand in front of a text, and what was behind them stands there still
pub record InFront (bytes text : List ℕ) (n : ℕ) (text' : List ℕ) : Type 0 where
  pub contents : text' ≡ laid_over bytes text
  pub count : n ≡ length bytes
  pub inside : n ≤ length text'
