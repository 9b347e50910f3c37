-- `infer::used` meets its contract.
use Rattle.infer.proofs.Needing.{used-behind, used-if, used-return, used-none}
use Rattle.infer.proofs.used.Goals as goal

pub returns-in-Goto : goal.returns-in-Goto
returns-in-Goto c = search used-behind

pub returns-in-If : goal.returns-in-If
returns-in-If c = search used-if

pub returns-in-Return : goal.returns-in-Return
returns-in-Return c = search used-return

pub returns-in-Spork : goal.returns-in-Spork
returns-in-Spork c = search used-none
