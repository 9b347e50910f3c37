-- `pool::opened` meets its contract.
use Rattle.pool.proofs.Readers.{calls-open}
use Rattle.pool.proofs.opened.Goals as goal

pub returns : goal.returns
returns c = calls-open c.args.ws.now c.args.at c.byte_at.ensures c.min.ensures
