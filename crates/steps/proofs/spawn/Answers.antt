use Rattle.steps.proofs.Writing.{was-spawned}
use Rattle.steps.proofs.spawn.Goals as goal

pub returns : goal.returns
returns c =
    let s = c.args in
    was-spawned s.g s.n s.out.now c.add_thread.ensures
    c.frame_start.ensures c.begin.ensures c.promote_call.ensures
