-- `targets::block_of` meets its contract.
use Rattle.targets.proofs.Lookups.{target_none, target-there}
use Rattle.targets.proofs.block_of.Goals as goal

pub returns-in_err-at : goal.returns-in_err-at
returns-in_err-at c = rw c.from_residual.ensures (search (target_none, c.in_err-at.was))

pub returns : goal.returns
returns c = search (target-there, c.in_ok-at.was)
