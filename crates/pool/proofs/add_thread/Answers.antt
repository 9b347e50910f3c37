-- `pool::add_thread`: the count, a gap, and a new thread in it.
use native.Mathlib.Omega.{arith}
use Rattle.pool.proofs.Steps.{was-added}
use Rattle.pool.proofs.add_thread.Goals as goal

pub returns : goal.returns
returns c =
    was-added c.args.ws.now c.args.thread _ _ _ _ _ _ _ c.requires.1 c.thread_count-n.ensures c.thread_start-at.ensures
    c.thread_start-end.ensures c.set_count.ensures c.move_run.ensures
    (omega (arith, c.move_run.auto.d, c.set_count.auto.ws)) c.clear.ensures c.set_count-2.ensures
