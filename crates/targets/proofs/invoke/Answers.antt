-- `targets::invoke` meets its contract.
use Rattle.bound.proofs.Exits.{lacks, found}
use Rattle.targets.proofs.Judged.{call-unknown, call-missing, call-one, call-count, call-unbound}
use Rattle.targets.proofs.invoke.Goals as goal

pub returns-then-not-arguments : goal.returns-then-not-arguments
returns-then-not-arguments c = search call-unbound

pub returns-in_err-n : goal.returns-in_err-n
returns-in_err-n c =
    let (z, e) = lacks c.function_of.result c.from_residual.result c.ok_or.ensures.value c.in_err-n.was c.from_residual.ensures.1 in
    rw e (search call-unknown)

pub returns-in_err-h : goal.returns-in_err-h
returns-in_err-h c =
    let n = found c.ok_or.ensures.ok_part c.in_ok-n.was in
    let (z, e) = lacks c.block_of.result c.from_residual-in_err-h.result c.ok_or-2.ensures.value c.in_err-h.was
    c.from_residual-in_err-h.ensures.1 in
    rw e (search call-missing)

pub returns-then-count-n : goal.returns-then-count-n
returns-then-count-n c =
    let n = found c.ok_or.ensures.ok_part c.in_ok-n.was in
    let h = found c.ok_or-2.ensures.ok_part c.in_ok-h.was in
    search call-count

pub returns : goal.returns
returns c =
    let n = found c.ok_or.ensures.ok_part c.in_ok-n.was in
    let h = found c.ok_or-2.ensures.ok_part c.in_ok-h.was in
    search call-one
