-- `infer::begin` meets its contract.
use Rattle.infer.proofs.Leading.{begun}
use Rattle.infer.proofs.begin.Goals as goal

pub returns : goal.returns
returns c = search begun
