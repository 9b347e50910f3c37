-- `targets::function_of` meets its contract.
use Rattle.targets.proofs.Lookups.{callee-none, callee-there}
use Rattle.targets.proofs.function_of.Goals as goal

pub returns-in_err-at : goal.returns-in_err-at
returns-in_err-at c = rw c.from_residual.ensures (search (callee-none, c.in_err-at.was))

pub returns : goal.returns
returns c = search (callee-there, c.in_ok-at.was)
