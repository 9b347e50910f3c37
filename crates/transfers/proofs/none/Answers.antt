-- `transfers::none` meets its contract.
use mathlib.Core.Path.{refl}
use Rattle.transfers.specs.Transfers.{nowhere}
use Rattle.transfers.proofs.none.Goals as goal

pub returns : goal.returns
unfolding nowhere
returns c = refl
