-- `pool::close_call`: both numbers of calls are stored, and a call is cleared.
use Rattle.pool.proofs.Stores.{was-closed}
use Rattle.pool.proofs.close_call.Goals as goal

pub returns : goal.returns
returns c =
    was-closed c.args.ws.now c.args.at c.requires.0 c.args.n c.args.promoted c.requires.1 c.ranges.promoted.fits
