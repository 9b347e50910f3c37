-- `pool::pop_frame`: the count, and one frame cleared.
use native.Mathlib.Omega.{arith}
use Rattle.pool.proofs.Steps.{was-popped}
use Rattle.pool.proofs.pop_frame.Goals as goal

pub returns : goal.returns
returns c =
    let n = c.frame_count-n.ensures in
    was-popped c.args.ws.now c.args.thread _ _ _ _ _ n c.thread_start-at.ensures c.set_count.ensures
    (omega (arith, n, c.requires.2)) c.clear.ensures
