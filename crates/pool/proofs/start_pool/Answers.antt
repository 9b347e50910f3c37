-- `pool::start_pool`: nothing but two counts.
use borrow.Author.Rules.{rules}
use Rattle.pool.proofs.Steps.{was-started}
use Rattle.pool.proofs.start_pool.Goals as goal

pub returns : goal.returns
returns c =
    was-started c.args.ws.now _ _ _ _ (search rules) c.clear.ensures c.set_count.ensures c.thread_start-at.ensures
    c.set_count-2.ensures
