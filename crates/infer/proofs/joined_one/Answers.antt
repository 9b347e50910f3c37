-- `infer::joined_one` meets its contract.
use Rattle.infer.proofs.Needing.{joins-one}
use Rattle.infer.proofs.joined_one.Goals as goal

pub returns : goal.returns
returns c = search joins-one
