-- `complete::put_function` meets its contract.
use Rattle.complete.proofs.Functions.{function-nowhere, function-at}
use Rattle.complete.proofs.put_function.Goals as goal

pub returns-in_default : goal.returns-in_default
returns-in_default c = search function-nowhere

pub returns : goal.returns
returns c = search function-at
