-- `tidy::put_if` meets its contract.
use Rattle.tidy.proofs.Putting.{compared}
use Rattle.tidy.proofs.put_if.Goals as goal

pub returns : goal.returns
returns c = search (compared)
