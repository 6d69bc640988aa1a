-- The words that are put are the record of a U, and the position after them is a position in the output.
use mathlib.Core.Path.{sym, ap, ◌∙◌}
use lib.Seq.{sets}
use Rattle.model.specs.Records.{Record}
use Rattle.record_writer.proofs.AngleWordsLaws.{u_words, u_long}
use Rattle.record_writer.proofs.WroteStepsLaws.{record_written}
use Rattle.record_writer.proofs.put_u.Goals as goal

pub returns : goal.returns
returns c = let a = c.args in
    let words = u_words a.theta a.phi a.lambda a.qubit c.put_angle.ensures c.put_angle-2.ensures c.put_angle-3.ensures in
    record_written (Record.U a.theta a.phi a.lambda a.qubit) 14 c.after_record.ensures (u_long a.theta a.phi a.lambda a.qubit) c.requires.2 (c.put_words.ensures ∙ ap (sets a.out.now a.at.words) (sym words))
