-- K1 to K10 of document 01, its four misreadings, and malformed input: antt computes both sides.
use mathlib.Core.Path.{◌≡◌, refl}
use mathlib.Core.List.{map}
use Rattle.model.specs.Listing.{listing, ascii}
use Rattle.model.specs.Cases.{cases, misreadings, malformed, listed, expected}
use Rattle.model.proofs.Compute.{everything}

pub K1-to-K10 : map listed cases ≡ map expected cases
unfolding everything
K1-to-K10 = refl

pub four_misreadings : map listed misreadings ≡ map expected misreadings
unfolding everything
four_misreadings = refl

pub malformed_input : map listing malformed ≡ map (λ bytes. ascii "refused 1 0 0\n") malformed
unfolding everything
malformed_input = refl
