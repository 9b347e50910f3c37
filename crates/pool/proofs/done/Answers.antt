-- `pool::done`: one word of the frame.
use Rattle.pool.specs.InPlace.{frame_at}
use Rattle.pool.proofs.done.Goals as goal

pub returns : goal.returns
unfolding frame_at
returns c = c.byte_at.ensures
