-- The records that a gate's body may write.
use Rattle.std.specs.Prelude.{ℕ, List}
use Rattle.value.specs.declared.Value.{Value}
use Rattle.model.specs.Records.{Record}

-- U, CX, gates that are not opened, and barriers
pub data BodyRecord : Record → Type 0 where
  body-U : {theta phi lambda : Value} {q : ℕ} → BodyRecord (Record.U theta phi lambda q)
  body-CX : {a b : ℕ} → BodyRecord (Record.CX a b)
  body_opaque : {g : ℕ} {xs : List Value} {qs : List ℕ} → BodyRecord (Record.Opaque g xs qs)
  body_barrier : {qs : List ℕ} → BodyRecord (Record.Barrier qs)
