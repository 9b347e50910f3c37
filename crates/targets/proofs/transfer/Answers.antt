-- `targets::transfer` meets its contract.
use Rattle.code.specs.Code.{transfer_of}
use Rattle.targets.proofs.Judged.{by_kind}
use Rattle.targets.proofs.transfer.Goals as goal

pub returns-in-Goto : goal.returns-in-Goto
unfolding transfer_of
returns-in-Goto c = search by_kind

pub returns-in-If : goal.returns-in-If
unfolding transfer_of
returns-in-If c = search by_kind

pub returns-in-Call : goal.returns-in-Call
unfolding transfer_of
returns-in-Call c = search by_kind

pub returns-in-Return : goal.returns-in-Return
unfolding transfer_of
returns-in-Return c = search by_kind

pub returns-in-Spork : goal.returns-in-Spork
unfolding transfer_of
returns-in-Spork c = search by_kind

pub returns-in-Spoin : goal.returns-in-Spoin
unfolding transfer_of
returns-in-Spoin c = search by_kind
