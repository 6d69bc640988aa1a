-- The closing lines of an answer are its last line, behind the calls of a refused run.
use Rattle.listing_text.proofs.EndTextLaws.{end_done, last_room, end_refused}
use Rattle.listing_text.proofs.put_end.Goals as goal

pub put_refused-requires : goal.put_refused-requires
put_refused-requires c = last_room c.args.trace.now c.in-Err.is c.put_trace.ensures c.requires.calls c.requires.few c.requires.room

pub returns-in-Ok : goal.returns-in-Ok
returns-in-Ok c = end_done _ c.in-Ok.is c.put_done.ensures

pub returns-in-Err : goal.returns-in-Err
returns-in-Err c = end_refused c.args.trace.now c.in-Err.is c.put_trace.ensures c.numbers_of.ensures c.put_refused.ensures
