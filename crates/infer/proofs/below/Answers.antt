-- `infer::below` meets its contract.
use Rattle.infer.proofs.Ends.{below-is}
use Rattle.infer.proofs.below.Goals as goal

pub returns : goal.returns
returns c = below-is _
