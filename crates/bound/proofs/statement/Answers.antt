-- `bound::statement` meets its contract.
use Rattle.bound.proofs.Exits.{lacks, found}
use Rattle.bound.proofs.Walked.{statement-unbound, statement-twice, statement-done}
use Rattle.bound.proofs.statement.Goals as goal

pub returns-in_err-k : goal.returns-in_err-k
returns-in_err-k c =
    let (z, e) = lacks c.expression.result c.from_residual.result c.ok_or.ensures.value c.in_err-k.was c.from_residual.ensures.1 in
    rw e (search statement-unbound)

pub returns-then-holds : goal.returns-then-holds
returns-then-holds c =
    let z = found c.ok_or.ensures.ok_part c.in_ok-k.was in
    search statement-twice

pub returns-else-holds : goal.returns-else-holds
returns-else-holds c =
    let z = found c.ok_or.ensures.ok_part c.in_ok-k.was in
    search statement-done
