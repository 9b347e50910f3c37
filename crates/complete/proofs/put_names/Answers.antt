-- `complete::put_names` : what is left are the lower digits.
use Rattle.complete.proofs.Putting.{names-on, names-end}
use Rattle.complete.proofs.put_names.Goals as goal

pub names-preserved : goal.names-preserved
names-preserved c = search names-on

pub returns : goal.returns
returns c = search names-end
