-- `pool::open_call`: the number of calls and a call are stored.
use Rattle.pool.proofs.Stores.{was-opened}
use Rattle.pool.proofs.open_call.Goals as goal

pub returns : goal.returns
returns c = was-opened c.args.ws.now c.args.at c.requires.0 c.args.n c.args.call c.requires.1 c.ranges.call.fits
