-- `tidy::put_call` meets its contract.
use Rattle.tidy.proofs.Putting.{called}
use Rattle.tidy.proofs.put_call.Goals as goal

pub returns : goal.returns
returns c = search (called)
