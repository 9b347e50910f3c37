-- `tidy::put_function` meets its contract.
use Rattle.tidy.proofs.Lists.{function-put}
use Rattle.tidy.proofs.put_function.Goals as goal

pub returns : goal.returns
returns c = search function-put
