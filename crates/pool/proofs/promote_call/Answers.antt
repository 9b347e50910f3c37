-- `pool::promote_call`: one word is stored.
use Rattle.pool.proofs.Stores.{was-promoted}
use Rattle.pool.proofs.promote_call.Goals as goal

pub returns : goal.returns
returns c = was-promoted c.args.ws.now c.args.at c.requires _ c.byte_at-n.ensures
