-- `pool::remove_thread`: the count, a gap closed, and the last thread cleared.
use Rattle.pool.proofs.Steps.{was-removed}
use Rattle.pool.proofs.remove_thread.Goals as goal

pub returns : goal.returns
returns c =
    was-removed c.args.ws.now c.args.thread _ _ _ _ _ _ c.thread_count-n.ensures
    c.thread_start-at.ensures c.thread_start-end.ensures
    c.set_count.ensures c.move_run.ensures c.clear.ensures
