-- `pool::name`: one word is stored.
use Rattle.pool.proofs.Stores.{was-named}
use Rattle.pool.proofs.name.Goals as goal

pub returns : goal.returns
returns c = was-named c.args.ws.now c.args.at c.requires c.args.g c.ranges.g.fits
