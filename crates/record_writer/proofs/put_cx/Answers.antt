-- Three stores are the words of a CX, and the position after them is a position in the output.
use mathlib.Core.Path.{refl}
use Rattle.model.specs.Records.{Record, encode, kind, fields}
use Rattle.model.proofs.SetsLaws.{three_put}
use Rattle.record_writer.proofs.WroteStepsLaws.{record_written}
use Rattle.record_writer.proofs.put_cx.Goals as goal

pub returns : goal.returns
unfolding encode kind fields
returns c = let a = c.args in
    record_written (Record.CX a.control a.target) 3 c.after_record.ensures refl c.requires.1 (three_put a.out.now a.at.words 2 a.control a.target)
