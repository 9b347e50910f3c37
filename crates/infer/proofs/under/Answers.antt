-- `infer::under` meets its contract.
use Rattle.infer.proofs.Marking.{under-stays, under-opens, under-closes}
use Rattle.infer.proofs.under.Goals as goal

pub returns-in-Goto : goal.returns-in-Goto
returns-in-Goto c = search under-stays

pub returns-in-Spork : goal.returns-in-Spork
returns-in-Spork c = search under-opens

pub returns-in-Spoin : goal.returns-in-Spoin
returns-in-Spoin c = search under-closes
