-- The line of a call is the word from, its scope and its place.
use Rattle.std.proofs.Common.{arith}
use Rattle.model.specs.Listing.{ascii}
use Rattle.listing_text.proofs.put_from.Goals as goal

pub returns : goal.returns
unfolding ascii
returns c = record { put = c.put_named_line.ensures.put; few = omega arith }
