-- `complete::zeros`: every byte is stored at once.
use mathlib.Core.Path.{refl}
use Rattle.complete.specs.Writes.{blank}
use Rattle.complete.proofs.zeros.Goals as goal

pub returns : goal.returns
unfolding blank
returns c = refl
