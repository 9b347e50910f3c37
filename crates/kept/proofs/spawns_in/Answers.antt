-- `kept::spawns_in` meets its contract.
use Rattle.kept.proofs.Names.{spawns-nowhere, spawns-at}
use Rattle.kept.proofs.spawns_in.Goals as goal

pub returns-in_default : goal.returns-in_default
returns-in_default c = search spawns-nowhere

pub returns-in-Some : goal.returns-in-Some
returns-in-Some c = search spawns-at
