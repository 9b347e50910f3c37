-- `kept::Kept::none` meets its contract.
use mathlib.Core.Path.{refl}
use Rattle.kept.specs.Kept.{nothing}
use Rattle.kept.proofs.Kept.none.Goals as goal

pub returns : goal.returns
unfolding nothing
returns c = refl
