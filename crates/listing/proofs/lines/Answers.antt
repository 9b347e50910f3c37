-- `listing::lines`: thread 0's lines.
use Rattle.listing.proofs.Listings.{whole}
use Rattle.listing.proofs.lines.Goals as goal

pub returns : goal.returns
returns c =
    whole c.args.who _ _ c.thread_lines-l.ensures.is
