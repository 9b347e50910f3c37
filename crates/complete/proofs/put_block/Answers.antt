-- `complete::put_block` meets its contract.
use Rattle.complete.proofs.Putting.{block-put}
use Rattle.complete.proofs.put_block.Goals as goal

pub returns : goal.returns
returns c = search block-put
