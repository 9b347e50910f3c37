-- `infer::targets` meets its contract.
use Rattle.infer.proofs.ByKind.{at-one, at-if, at-call, at-return, at-spoin}
use Rattle.infer.proofs.targets.Goals as goal

pub returns-in-Goto : goal.returns-in-Goto
returns-in-Goto c = search at-one

pub returns-in-If : goal.returns-in-If
returns-in-If c = search at-if

pub returns-in-Call : goal.returns-in-Call
returns-in-Call c = search at-call

pub returns-in-Return : goal.returns-in-Return
returns-in-Return c = search at-return

pub returns-in-Spoin : goal.returns-in-Spoin
returns-in-Spoin c = search at-spoin
