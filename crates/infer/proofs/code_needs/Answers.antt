-- `infer::code_needs` meets its contract.
use Rattle.infer.proofs.Needing.{code-walked}
use Rattle.infer.proofs.code_needs.Goals as goal

pub returns : goal.returns
returns c = search code-walked
