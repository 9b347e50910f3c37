-- `rules::transfer` meets its contract.
use Rattle.code.specs.Code.{transfer_of}
use Rattle.rules.proofs.Steps.{transfer-by, transfer-if}
use Rattle.rules.proofs.transfer.Goals as goal

pub returns-in-Goto : goal.returns-in-Goto
unfolding transfer_of
returns-in-Goto c =
    transfer-by _ _ c.kind_at.ensures c.after-first.ensures _ _ _ _ _ _ c.in-Goto.is c.goto.ensures

pub returns-in-If : goal.returns-in-If
returns-in-If c = search transfer-if

pub returns-in-Call : goal.returns-in-Call
unfolding transfer_of
returns-in-Call c =
    transfer-by _ _ c.kind_at.ensures c.after-first.ensures _ _ _ _ _ _ c.in-Call.is c.call.ensures

pub returns-in-Return : goal.returns-in-Return
unfolding transfer_of
returns-in-Return c =
    transfer-by _ _ c.kind_at.ensures c.after-first.ensures _ _ _ _ _ _ c.in-Return.is (c.give_back.ensures _)

pub returns-in-Spork : goal.returns-in-Spork
unfolding transfer_of
returns-in-Spork c =
    transfer-by _ _ c.kind_at.ensures c.after-first.ensures _ _ _ _ _ _ c.in-Spork.is (c.spork.ensures.is _)

pub returns-in-Spoin : goal.returns-in-Spoin
unfolding transfer_of
returns-in-Spoin c =
    transfer-by _ _ c.kind_at.ensures c.after-first.ensures _ _ _ _ _ _ c.in-Spoin.is (c.spoin-in-Spoin.ensures.is _)
