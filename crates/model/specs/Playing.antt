-- What the contracts of the code are made of. It defines nothing new: an engineer who reads the definitions need not read it.
use Rattle.std.specs.Prelude.{ℕ, ◌+◌, ◌-◌, ◌≤◌, ◌≡◌, List, ◌++◌, length}
use Rattle.std.proofs.lemmas.List.Edits.{sets}
use Rattle.model.specs.Steps.{Step}
use Rattle.model.specs.Run.{Answer, done, play, output}

-- how far a run has come: the lent output, and the words and records written to it
pub record OutputState : Type 0 where
  pub out : List ℕ
  pub words : ℕ
  pub records : ℕ

-- the words left
abbrev pub room : OutputState → ℕ
room p = length p.out - p.words

-- a function's promise: it played some steps from one state of the output to another, and answers so
pub record Plays (ss : List Step) (from to : OutputState) (answer : Answer) : Type 0 where
  pub contents : to.out ≡ sets from.out from.words (output (play (room from) ss))
  pub position : to.words ≡ from.words + length (output (play (room from) ss))
  pub counts : to.records ≡ from.records + length (play (room from) ss).written
  pub answers : answer ≡ (play (room from) ss).answer
  -- what follows, for the code's arithmetic: a record has a word at least
  pub fits : to.words ≤ length to.out
  pub same : length to.out ≡ length from.out
  pub fewer : to.records + from.words ≤ from.records + to.words

-- a loop's invariant: of the steps a part is played, and the rest is still to be played
pub record Going (ss rest : List Step) (from now : OutputState) : Type 0 where
  pub part : List Step
  pub split : ss ≡ part ++ rest
  pub played : Plays part from now done
