-- `listing::standing`: the thread's number, how many frames it has, and the numbers of its newest frame.
use Rattle.listing.proofs.Frames.{standing-put}
use Rattle.listing.proofs.standing.Goals as goal

pub returns : goal.returns
returns c =
    standing-put c.frame_count.ensures c.newest_start.ensures.is c.decimal-k.ensures c.part-k.ensures
    c.position.ensures
