-- `complete::put_scoping` meets its contract.
use Rattle.complete.proofs.Putting.{scoping-put}
use Rattle.complete.proofs.put_scoping.Goals as goal

pub returns : goal.returns
returns c = search scoping-put
