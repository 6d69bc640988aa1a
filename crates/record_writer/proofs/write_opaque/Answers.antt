-- The words that are appended are the record of a gate that is not opened.
use lib.ListN.{take}
use Rattle.record_writer.proofs.AngleWordsLaws.{opaque_words}
use Rattle.model.specs.Records.{Record}
use Rattle.record_writer.proofs.write_opaque.Goals as goal

pub returns : goal.returns
returns c = let a = c.args in
    c.append.ensures.wrote (Record.Opaque a.gate (take a.parameters a.angles) (take a.arguments a.qubits))
    (opaque_words a.gate a.parameters a.arguments a.angles a.qubits c.requires.1.sound.sixteen c.requires.1.few c.requires.2.sixteen c.requires.2.few c.put_angles.ensures c.put_words.ensures)
