-- `bound::part` meets its contract.
use Rattle.model.specs.Sets.{within}
use mathlib.Core.Path.{refl}
use Rattle.bound.proofs.part.Goals as goal

pub returns : goal.returns
unfolding within
returns c = refl
