-- `targets::leave` meets its contract.
use Rattle.bound.proofs.Exits.{lacks, found}
use Rattle.targets.proofs.Judged.{own-there, return-fine, return-nested, return-count, return-unbound}
use Rattle.targets.proofs.leave.Goals as goal

pub returns-then-not-arguments : goal.returns-then-not-arguments
returns-then-not-arguments c = search return-unbound

pub returns-in_err-m : goal.returns-in_err-m
returns-in_err-m c =
    let (z, e) = lacks c.function_of.result c.from_residual.result c.ok_or.ensures.value c.in_err-m.was c.from_residual.ensures.1 in
    λ P F W L. own-there _ _ _ _ c.function_of.ensures W z

pub returns-then-count-m : goal.returns-then-count-m
returns-then-count-m c =
    let m = found c.ok_or.ensures.ok_part c.in_ok-m.was in
    search return-count

pub returns-then-here-ne0 : goal.returns-then-here-ne0
returns-then-here-ne0 c =
    let m = found c.ok_or.ensures.ok_part c.in_ok-m.was in
    search return-nested

pub returns : goal.returns
returns c =
    let m = found c.ok_or.ensures.ok_part c.in_ok-m.was in
    search return-fine
