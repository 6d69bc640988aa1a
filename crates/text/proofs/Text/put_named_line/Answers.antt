-- A name is put, and then numbers and a line feed.
use Rattle.text.proofs.NumberLineLaws.{behind_name, named_put}
use Rattle.text.proofs.Text.put_named_line.Goals as goal

pub put_spaced_numbers-requires : goal.put_spaced_numbers-requires
put_spaced_numbers-requires c = behind_name c.args.name.now c.args.numbers.now c.put_bytes.ensures c.requires

pub returns : goal.returns
returns c = named_put c.args.name.now c.args.numbers.now c.put_bytes.ensures c.put_spaced_numbers.ensures
