-- `places::clear`: every entry is stored at once.
use mathlib.Core.Path.{refl}
use Rattle.places.specs.Marks.{nowhere}
use Rattle.places.proofs.clear.Goals as goal

pub returns : goal.returns
unfolding nowhere
returns c = refl
