-- `listing::fits` meets its contract.
use Rattle.listing.proofs.Listings.{fits_all, fits-counted}
use Rattle.listing.proofs.fits.Goals as goal

pub returns-then-room-ge-MOST : goal.returns-then-room-ge-MOST
returns-then-room-ge-MOST c = search fits_all

pub returns : goal.returns
returns c = search fits-counted
