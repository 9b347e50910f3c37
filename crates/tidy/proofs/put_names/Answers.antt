-- `tidy::put_names` meets its contract.
use Rattle.tidy.proofs.Putting.{names-on, names-end}
use Rattle.tidy.proofs.put_names.Goals as goal

pub names-preserved : goal.names-preserved
names-preserved c = search names-on

pub returns : goal.returns
returns c = search names-end
