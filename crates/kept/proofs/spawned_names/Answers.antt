-- `kept::spawned_names` meets its contract.
use Rattle.kept.proofs.Loops.{spawned-next, spawned-end}
use Rattle.kept.proofs.spawned_names.Goals as goal

pub names-preserved : goal.names-preserved
names-preserved c = search spawned-next

pub returns : goal.returns
returns c = search spawned-end
