-- `bound::arguments` meets its contract.
use Rattle.code.specs.Code.{arguments_at}
use Rattle.bound.proofs.arguments.Goals as goal

pub returns : goal.returns
unfolding arguments_at
returns c = cc
