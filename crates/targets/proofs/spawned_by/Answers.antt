-- `targets::spawned_by` meets its contract.
use Rattle.targets.proofs.Lookups.{spawned-none, spawned-there}
use Rattle.targets.proofs.spawned_by.Goals as goal

pub returns-in_err-at : goal.returns-in_err-at
returns-in_err-at c = rw c.from_residual.ensures (search (spawned-none, c.in_err-at.was))

pub returns : goal.returns
returns c = search (spawned-there, c.in_ok-at.was)
