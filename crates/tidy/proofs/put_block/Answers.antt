-- `tidy::put_block` meets its contract.
use Rattle.tidy.proofs.Renaming.{block-put}
use Rattle.tidy.proofs.put_block.Goals as goal

pub returns : goal.returns
returns c = search (block-put)
