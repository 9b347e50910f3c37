-- `pool::jump`: two words are stored.
use Rattle.pool.proofs.Stores.{was-jumped}
use Rattle.pool.proofs.jump.Goals as goal

pub returns : goal.returns
returns c = was-jumped c.args.ws.now c.args.at c.requires c.args.b c.args.n c.ranges.b.fits c.ranges.n.fits
