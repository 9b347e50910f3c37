-- `pool::bound`: one word of the frame.
use Rattle.pool.specs.InPlace.{frame_at}
use Rattle.pool.proofs.bound.Goals as goal

pub returns : goal.returns
unfolding frame_at
returns c = c.half_at.ensures
