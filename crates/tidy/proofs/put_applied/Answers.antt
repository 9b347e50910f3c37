-- `tidy::put_applied` meets its contract.
use Rattle.tidy.proofs.Putting.{applied}
use Rattle.tidy.proofs.put_applied.Goals as goal

pub returns : goal.returns
returns c = search (applied)
