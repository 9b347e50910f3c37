-- `infer::bind_list` meets its contract.
use Rattle.code.specs.Code.{arguments_at}
use Rattle.infer.proofs.bind_list.Goals as goal

pub returns : goal.returns
unfolding arguments_at
returns c = cc
