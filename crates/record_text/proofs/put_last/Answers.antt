-- The last line says whether the records are all of the input.
use Rattle.model.specs.Listing.{ascii}
use Rattle.text.proofs.PutLaws.{put_same}
use Rattle.record_text.proofs.ReadBackLaws.{last_more, last_end, last_refused}
use Rattle.record_text.proofs.put_last.Goals as goal

pub returns-then-is_more : goal.returns-then-is_more
unfolding ascii
returns-then-is_more c = put_same (last_more c.args.bytes c.args.front.words c.args.front.records c.is_more.ensures c.if-is_more.true) c.put_named_line.ensures.put

pub returns-then-front-bytes : goal.returns-then-front-bytes
unfolding ascii
returns-then-front-bytes c = put_same (last_end c.args.bytes c.args.front.words c.args.front.records c.is_more.ensures c.if-is_more.false c.if-front-bytes.true) c.put_named_line-then-front-bytes.ensures.put

pub returns-else-front-bytes : goal.returns-else-front-bytes
unfolding ascii
returns-else-front-bytes c = put_same (last_refused c.args.bytes c.args.front.words c.args.front.records c.is_more.ensures c.if-is_more.false c.if-front-bytes.false) c.put_named_line-else-front-bytes.ensures.put
