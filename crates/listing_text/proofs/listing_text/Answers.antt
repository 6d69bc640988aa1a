-- The listing of an input stands in front of the text.
use Rattle.text.proofs.PutLaws.{in_front}
use Rattle.listing_text.proofs.listing_text.Goals as goal

pub returns : goal.returns
returns c = in_front c.new-text.ensures.contents c.new-text.ensures.empty c.put_listing.ensures
