-- `kept::mention_names` meets its contract.
use Rattle.kept.proofs.Loops.{names-next, names-end}
use Rattle.kept.proofs.mention_names.Goals as goal

pub names-preserved : goal.names-preserved
names-preserved c = search names-next

pub returns : goal.returns
returns c = search names-end
