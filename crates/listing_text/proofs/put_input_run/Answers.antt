-- The image behind the depth is read, capped where it is too long, and its run is put.
use Rattle.std.proofs.Common.{◌-◌, length, drop, arith, length-drop}
use lib.Seq.{take_all}
use Rattle.text.proofs.WordLaws.{words_behind}
use Rattle.listing_text.proofs.InputTextLaws.{input_put}
use Rattle.listing_text.proofs.put_input_run.Goals as goal

pub returns : goal.returns
returns c =
    let input = c.args.input.now in
    let behind = words_behind 8193 input (take_all (length input - 8) (drop 8 input) (omega (arith, length-drop 8 input))) c.words_in-image.ensures in
    input_put input behind c.first_word.ensures c.put_run.ensures
