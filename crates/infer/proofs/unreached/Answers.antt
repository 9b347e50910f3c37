-- `infer::unreached` meets its contract.
use Rattle.infer.proofs.Ends.{reaches}
use Rattle.infer.proofs.unreached.Goals as goal

pub returns : goal.returns
returns c = search reaches
