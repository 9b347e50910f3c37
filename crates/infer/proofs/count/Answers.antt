-- `infer::count` meets its contract.
use Rattle.infer.proofs.Leading.{count-nowhere, count_at}
use Rattle.infer.proofs.count.Goals as goal

pub returns-in-None : goal.returns-in-None
returns-in-None c = search count-nowhere

pub returns-in-Some : goal.returns-in-Some
returns-in-Some c = search count_at
