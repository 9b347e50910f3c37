-- `pool::push_frame`: the count.
use Rattle.pool.proofs.Steps.{was-pushed}
use Rattle.pool.proofs.push_frame.Goals as goal

pub returns : goal.returns
returns c =
    was-pushed c.args.ws.now c.args.thread _ _ _ c.requires.1 c.frame_count-n.ensures c.thread_start-at.ensures
    c.set_count.ensures
