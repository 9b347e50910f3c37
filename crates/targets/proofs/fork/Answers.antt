-- `targets::fork` meets its contract.
use Rattle.bound.proofs.Exits.{lacks, found}
use Rattle.targets.proofs.Judged.{spork-missing, spork-unknown, spork-grown}
use Rattle.targets.proofs.fork.Goals as goal

pub returns-in_err-h : goal.returns-in_err-h
returns-in_err-h c =
    let (z, e) = lacks c.block_of.result c.from_residual.result c.ok_or.ensures.value c.in_err-h.was c.from_residual.ensures.1 in
    rw e (search spork-missing)

pub returns-in_err-ok_or : goal.returns-in_err-ok_or
returns-in_err-ok_or c =
    let h = found c.ok_or.ensures.ok_part c.in_ok-h.was in
    let (z, e) = lacks c.spawn.result c.from_residual-in_err-ok_or.result c.ok_or-2.ensures.value c.in_err-ok_or.was
    c.from_residual-in_err-ok_or.ensures.1 in
    rw e (search spork-unknown)

pub returns : goal.returns
returns c =
    let h = found c.ok_or.ensures.ok_part c.in_ok-h.was in
    let x = found c.ok_or-2.ensures.ok_part c.in_ok-ok_or.was in
    search spork-grown
