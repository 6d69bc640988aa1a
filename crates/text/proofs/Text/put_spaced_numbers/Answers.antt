-- Numbers are put in decimal one after the other, and a line feed behind them.
use Rattle.std.proofs.Common.{arith}
use Rattle.text.proofs.NumberLineLaws.{number_room, number_more, line_feed_room, numbers_put}
use Rattle.text.proofs.Text.put_spaced_numbers.Goals as goal

pub put_word-requires : goal.put_word-requires
put_word-requires c = number_room c.loop-n.invariant c.loop-n-test.true (omega arith) c.requires

pub loop-n-preserved : goal.loop-n-preserved
loop-n-preserved c = number_more c.loop-n.invariant c.loop-n-test.true (omega arith) c.put_word.ensures

pub end_line-requires : goal.end_line-requires
end_line-requires c = line_feed_room c.loop-n.invariant (omega arith) c.requires

pub returns : goal.returns
returns c = numbers_put c.loop-n.invariant (omega arith) c.loop-n-test.false c.end_line.ensures
