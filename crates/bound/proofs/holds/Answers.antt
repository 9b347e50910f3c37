-- `bound::holds` meets its contract.
use mathlib.Core.Path.{refl}
use Rattle.model.specs.Sets.{has}
use Rattle.bound.specs.Walks.{holds}
use Rattle.bound.proofs.holds.Goals as goal

pub returns : goal.returns
unfolding holds has
returns c = refl
