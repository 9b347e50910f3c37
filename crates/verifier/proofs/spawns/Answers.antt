-- `verifier::spawns` meets its contract.
use Rattle.bound.proofs.Exits.{lacks, found}
use Rattle.verifier.proofs.Ranks.{spawn-unknown, spawn-fine, spawn-count}
use Rattle.verifier.proofs.spawns.Goals as goal

pub returns-in_err-n : goal.returns-in_err-n
returns-in_err-n c =
    let (z, e) = lacks c.function_of.result c.from_residual.result c.ok_or.ensures.value c.in_err-n.was c.from_residual.ensures.1 in
    rw e (search spawn-unknown)

pub returns-then-count-n : goal.returns-then-count-n
returns-then-count-n c =
    let z = found c.ok_or.ensures.ok_part c.in_ok-n.was in
    search spawn-fine

pub returns-else-count-n : goal.returns-else-count-n
returns-else-count-n c =
    let z = found c.ok_or.ensures.ok_part c.in_ok-n.was in
    search spawn-count
