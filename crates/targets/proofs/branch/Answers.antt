-- `targets::branch` meets its contract.
use Rattle.bound.proofs.Exits.{lacks, found}
use Rattle.targets.proofs.Judged.{if-unbound, if-missing, if-missing-2, if-both}
use Rattle.targets.proofs.branch.Goals as goal

pub returns-in_err-k : goal.returns-in_err-k
returns-in_err-k c =
    let (z, e) = lacks c.expression.result c.from_residual.result c.ok_or.ensures.value c.in_err-k.was c.from_residual.ensures.1 in
    rw e (search if-unbound)

pub returns-in_err-h : goal.returns-in_err-h
returns-in_err-h c =
    let k = found c.ok_or.ensures.ok_part c.in_ok-k.was in
    let (z, e) = lacks c.block_of.result c.from_residual-in_err-h.result c.ok_or-2.ensures.value c.in_err-h.was
    c.from_residual-in_err-h.ensures.1 in
    rw e (search if-missing)

pub returns-in_err-j : goal.returns-in_err-j
returns-in_err-j c =
    let k = found c.ok_or.ensures.ok_part c.in_ok-k.was in
    let h = found c.ok_or-2.ensures.ok_part c.in_ok-h.was in
    let (z, e) = lacks c.block_of-2.result c.from_residual-in_err-j.result c.ok_or-3.ensures.value c.in_err-j.was
    c.from_residual-in_err-j.ensures.1 in
    rw e (search if-missing-2)

pub returns : goal.returns
returns c =
    let k = found c.ok_or.ensures.ok_part c.in_ok-k.was in
    let h = found c.ok_or-2.ensures.ok_part c.in_ok-h.was in
    let j = found c.ok_or-3.ensures.ok_part c.in_ok-j.was in
    search if-both
