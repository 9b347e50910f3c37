-- `pool::Pool::empty_frame` is a function's first frame.
use mathlib.Core.Path.{refl}
use Rattle.model.specs.Lists.{pad}
use Rattle.model.specs.Sets.{below}
use Rattle.model.specs.Pool.{begin}
use Rattle.pool.specs.Frame.{model_of}
use Rattle.pool.proofs.Pool.empty_frame.Goals as goal

pub returns : goal.returns
unfolding model_of begin below pad
returns c = refl
