-- `pool::set_purse`: two words are stored.
use Rattle.pool.proofs.Steps.{was-endowed}
use Rattle.pool.proofs.set_purse.Goals as goal

pub returns : goal.returns
returns c =
    was-endowed c.args.ws.now c.args.thread _ _ _ _ c.thread_start-at.ensures c.set_count.ensures
    c.set_count-2.ensures
