-- `tidy::put_block_of` meets its contract.
use Rattle.tidy.proofs.Placed.{block-nowhere, block-at}
use Rattle.tidy.proofs.put_block_of.Goals as goal

pub returns-in-None : goal.returns-in-None
returns-in-None c = search block-nowhere

pub returns-in-Some : goal.returns-in-Some
returns-in-Some c = search block-at
