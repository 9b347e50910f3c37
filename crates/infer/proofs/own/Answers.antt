-- `infer::own` meets its contract.
use Rattle.infer.proofs.Owning.{own-nowhere, own_at}
use Rattle.infer.proofs.own.Goals as goal

pub returns-in-None : goal.returns-in-None
returns-in-None c = search own-nowhere

pub returns-in-Some : goal.returns-in-Some
returns-in-Some c = search own_at
