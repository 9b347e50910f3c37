-- `depth::call_of` meets its contract.
use Rattle.depth.proofs.Transfers.{no_block, calls, calls-nothing}
use Rattle.depth.proofs.call_of.Goals as goal

pub returns-in_err-at : goal.returns-in_err-at
returns-in_err-at c = rw c.from_residual.ensures (search (no_block, c.in_err-at.was))

pub returns-in-Call : goal.returns-in-Call
returns-in-Call c = search (calls, c.in_ok-at.was)

pub returns-in_default : goal.returns-in_default
returns-in_default c = search (calls-nothing, c.in_ok-at.was)
