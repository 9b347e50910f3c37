-- `kept::targets` meets its contract.
use Rattle.kept.proofs.Names.{targets-goto, targets-if, targets-call, targets-return, targets-spork, targets-spoin}
use Rattle.kept.proofs.targets.Goals as goal

pub returns-in-Goto : goal.returns-in-Goto
returns-in-Goto c = search targets-goto

pub returns-in-If : goal.returns-in-If
returns-in-If c = search targets-if

pub returns-in-Call : goal.returns-in-Call
returns-in-Call c = search targets-call

pub returns-in-Return : goal.returns-in-Return
returns-in-Return c = search targets-return

pub returns-in-Spork : goal.returns-in-Spork
returns-in-Spork c = search targets-spork

pub returns-in-Spoin : goal.returns-in-Spoin
returns-in-Spoin c = search targets-spoin
