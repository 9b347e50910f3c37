-- `tidy::put_spawn` meets its contract.
use Rattle.tidy.proofs.Placed.{spawn-nowhere, spawn-at}
use Rattle.tidy.proofs.put_spawn.Goals as goal

pub returns-in-None : goal.returns-in-None
returns-in-None c = search spawn-nowhere

pub returns-in-Some : goal.returns-in-Some
returns-in-Some c = search spawn-at
