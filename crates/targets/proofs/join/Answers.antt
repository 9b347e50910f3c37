-- `targets::join` meets its contract.
use native.Mathlib.Omega.{arith}
use Rattle.bound.proofs.Exits.{lacks, found}
use Rattle.targets.proofs.Judged.{spoin-bare, spoin-missing, spoin-missing-2, spoin-unknown, spoin-both}
use Rattle.targets.proofs.join.Goals as goal

pub returns-in_err-h : goal.returns-in_err-h
returns-in_err-h c =
    let (z, e) = lacks c.block_of.result c.from_residual.result c.ok_or.ensures.value c.in_err-h.was c.from_residual.ensures.1 in
    rw e (search spoin-missing)

pub returns-in_err-k : goal.returns-in_err-k
returns-in_err-k c =
    let h = found c.ok_or.ensures.ok_part c.in_ok-h.was in
    let (z, e) = lacks c.block_of-2.result c.from_residual-in_err-k.result c.ok_or-2.ensures.value c.in_err-k.was
    c.from_residual-in_err-k.ensures.1 in
    rw e (search spoin-missing-2)

pub returns-then-here-eq0 : goal.returns-then-here-eq0
returns-then-here-eq0 c =
    let h = found c.ok_or.ensures.ok_part c.in_ok-h.was in
    let k = found c.ok_or-2.ensures.ok_part c.in_ok-k.was in
    search spoin-bare

pub returns-in_err-m : goal.returns-in_err-m
returns-in_err-m c =
    let h = found c.ok_or.ensures.ok_part c.in_ok-h.was in
    let k = found c.ok_or-2.ensures.ok_part c.in_ok-k.was in
    let (z, e) = lacks c.spawned_by.result c.from_residual-in_err-m.result c.ok_or-3.ensures.value c.in_err-m.was
    c.from_residual-in_err-m.ensures.1 in
    rw e
    (spoin-unknown _ _ _ _ _ c.byte.ensures c.block_of.ensures h c.after.ensures c.byte-2.ensures _ c.block_of-2.ensures k _ _ (omega arith)
    (omega arith) c.after-2.ensures c.byte-innermost.ensures c.spawned_by.ensures z)

pub returns : goal.returns
returns c =
    let h = found c.ok_or.ensures.ok_part c.in_ok-h.was in
    let k = found c.ok_or-2.ensures.ok_part c.in_ok-k.was in
    let m = found c.ok_or-3.ensures.ok_part c.in_ok-m.was in
    spoin-both _ _ _ _ _ c.byte.ensures c.block_of.ensures h c.after.ensures c.byte-2.ensures _ c.block_of-2.ensures k _ _ (omega arith)
    (omega arith) c.after-2.ensures c.byte-innermost.ensures c.spawned_by.ensures c.both.result m c.both.ensures
