-- `listing::line`: spaces, the seven numbers, the values, and the end of the line.
use Rattle.listing.proofs.Frames.{line-put}
use Rattle.listing.proofs.line.Goals as goal

pub returns : goal.returns
returns c = search line-put
