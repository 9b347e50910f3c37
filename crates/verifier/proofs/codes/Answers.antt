-- `verifier::codes` meets its contract.
use Rattle.bound.proofs.Exits.{exits}
use Rattle.verifier.proofs.Ranks.{code-fault, code-transfer}
use Rattle.verifier.proofs.codes.Goals as goal

pub returns-in_err-bound : goal.returns-in_err-bound
returns-in_err-bound c =
    rw (exits c.from_residual.result c.from_residual.ensures.1) (search (code-fault, c.in_err-bound.was))

pub returns : goal.returns
returns c = search (code-transfer, c.in_ok-bound.was)
