-- `tidy::fits` meets its contract.
use Rattle.tidy.proofs.Tables.{fits_all, fits-counted}
use Rattle.tidy.proofs.fits.Goals as goal

pub returns-then-s-room : goal.returns-then-s-room
returns-then-s-room c = search fits_all

pub returns : goal.returns
returns c = search fits-counted
