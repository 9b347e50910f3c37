-- `targets::go` meets its contract.
use Rattle.bound.proofs.Exits.{lacks, found}
use Rattle.targets.proofs.Judged.{goto-missing, goto-one, goto-unbound}
use Rattle.targets.proofs.go.Goals as goal

pub returns-then-not-arguments : goal.returns-then-not-arguments
returns-then-not-arguments c = search goto-unbound

pub returns-in_err-h : goal.returns-in_err-h
returns-in_err-h c =
    let (z, e) = lacks c.block_of.result c.from_residual.result c.ok_or.ensures.value c.in_err-h.was c.from_residual.ensures.1 in
    rw e (search goto-missing)

pub returns : goal.returns
returns c =
    let h = found c.ok_or.ensures.ok_part c.in_ok-h.was in
    search goto-one
