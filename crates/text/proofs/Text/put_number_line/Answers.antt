-- The first number is put, and then the others, each behind a space, and a line feed.
use Rattle.std.proofs.Common.{arith}
use Rattle.text.proofs.NumberLineLaws.{first_room, behind_first, number_line_put}
use Rattle.text.proofs.Text.put_number_line.Goals as goal

pub put_decimal-requires : goal.put_decimal-requires
put_decimal-requires c = first_room c.args.numbers.now c.requires.some (omega arith) c.requires.room

pub put_spaced_numbers-requires : goal.put_spaced_numbers-requires
put_spaced_numbers-requires c = behind_first c.args.numbers.now c.requires.some (omega arith) c.requires.room c.put_decimal.ensures

pub returns : goal.returns
returns c = number_line_put c.args.numbers.now c.requires.some c.put_decimal.ensures c.put_spaced_numbers.ensures
