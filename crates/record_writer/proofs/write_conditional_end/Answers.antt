-- The word that is appended is the record of a conditional's end.
use mathlib.Core.Path.{refl}
use Rattle.model.specs.Records.{Record, encode, kind, fields}
use Rattle.record_writer.proofs.write_conditional_end.Goals as goal

pub returns : goal.returns
unfolding encode kind fields
returns c = c.append.ensures.wrote Record.ConditionalEnd refl
