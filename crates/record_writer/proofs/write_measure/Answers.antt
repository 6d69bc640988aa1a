-- The words that are appended are the record of a measurement.
use mathlib.Core.Path.{refl}
use Rattle.model.specs.Records.{Record, encode, kind, fields}
use Rattle.record_writer.proofs.write_measure.Goals as goal

pub returns : goal.returns
unfolding encode kind fields
returns c = let args = c.args in
    let a = args in c.append.ensures.wrote (Record.Measure a.qubit a.bit) refl
