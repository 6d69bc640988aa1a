-- The first eight bytes are the number that the library reads of them.
use Rattle.std.proofs.Common.{ap, ◌∙◌}
use Rattle.std.specs.Int.{w64, from_le_bytes}
use Rattle.text.proofs.WordLaws.{eight_bytes}
use Rattle.text.proofs.first_word.Goals as goal

pub returns : goal.returns
returns c =
    let chunk = rw c.unwrap.ensures at c.first_chunk.ensures.cases in
    c.from_le_bytes.ensures ∙ ap (from_le_bytes w64) chunk.same ∙ eight_bytes c.args.bytes.now c.requires
