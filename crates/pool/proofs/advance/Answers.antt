-- `pool::advance`: one word is stored.
use Rattle.pool.proofs.Stores.{was-advanced}
use Rattle.pool.proofs.advance.Goals as goal

pub returns : goal.returns
returns c = was-advanced c.args.ws.now c.args.at c.requires _ c.byte_at-n.ensures
