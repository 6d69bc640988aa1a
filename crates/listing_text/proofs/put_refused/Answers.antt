-- The last line of a refused run is the word refused, the number and the two places.
use Rattle.model.specs.Listing.{ascii, refused_text}
use Rattle.listing_text.proofs.put_refused.Goals as goal

pub returns : goal.returns
unfolding ascii refused_text
returns c = c.put_named_line.ensures.put
