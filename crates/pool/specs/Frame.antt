-- The code's frame as the model's, and frames whose numbers fit the code's.
use Rattle.std.specs.Prelude.{◌<◌, take}
use Rattle.model.specs.Lists.{Each}
use Rattle.model.specs.Pool as Pool
use Rattle.model.specs.Valid.{FrameFits}
use Rattle.pool.specs.declared.Frame.{Frame}

unfoldable pub model_of : Frame → Pool.Frame
model_of f =
    record {
      function = f.function;
      block = f.block;
      done = f.done;
      bound = f.bound;
      calls = take f.opened f.calls;
      promoted = f.promoted;
      values = f.values;
    }

-- a frame whose numbers fit the code's
pub record Small (k : Pool.Frame) : Type 0 where
  pub function : k.function < 256
  pub block : k.block < 256
  pub done : k.done < 256
  pub bound : k.bound < 65536
  pub promoted : k.promoted < 256
  pub calls : Each (λ π. π < 256) k.calls
  pub fits : FrameFits k
