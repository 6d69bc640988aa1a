-- The last line of a finished run is the word done and the number of records.
use Rattle.model.specs.Listing.{ascii}
use Rattle.listing_text.proofs.put_done.Goals as goal

pub returns : goal.returns
unfolding ascii
returns c = c.put_named_line.ensures.put
