-- `pool::bind`: the bound set and a value are stored.
use Rattle.pool.proofs.Stores.{was-bound}
use Rattle.pool.proofs.bind.Goals as goal

pub returns : goal.returns
returns c =
    was-bound c.args.ws.now c.args.at c.requires.0 c.args.x _ c.args.v c.requires.1 c.ranges.v c.half_at-bound.ensures
