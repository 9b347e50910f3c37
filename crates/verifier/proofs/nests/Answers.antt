-- `verifier::nests` meets its contract.
use Rattle.bound.proofs.Exits.{lacks, found}
use Rattle.verifier.proofs.Ranks.{nest-missing, nest-in, nest-out}
use Rattle.verifier.proofs.nests.Goals as goal

pub returns-in_err-at : goal.returns-in_err-at
returns-in_err-at c =
    let (z, e) = lacks c.spawn.result c.from_residual.result c.ok_or.ensures.value c.in_err-at.was c.from_residual.ensures.1 in
    rw e (search nest-missing)

pub returns-then-arguments : goal.returns-then-arguments
returns-then-arguments c =
    let z = found c.ok_or.ensures.ok_part c.in_ok-at.was in
    search nest-in

pub returns-else-arguments : goal.returns-else-arguments
returns-else-arguments c =
    let z = found c.ok_or.ensures.ok_part c.in_ok-at.was in
    search nest-out
