-- `kept::spawned` meets its contract.
use Rattle.kept.proofs.Names.{spawned-nowhere, spawned-at}
use Rattle.kept.proofs.spawned.Goals as goal

pub returns-in_default : goal.returns-in_default
returns-in_default c = search spawned-nowhere

pub returns-in-Some : goal.returns-in-Some
returns-in-Some c = search spawned-at
