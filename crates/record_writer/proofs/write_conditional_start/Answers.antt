-- The words that are appended are the record of a conditional's start.
use mathlib.Core.Path.{refl}
use Rattle.model.specs.Records.{Record, encode, kind, fields}
use Rattle.record_writer.proofs.write_conditional_start.Goals as goal

pub returns : goal.returns
unfolding encode kind fields
returns c = let a = c.args in
    c.append.ensures.wrote (Record.ConditionalStart a.bit a.size a.value) refl
