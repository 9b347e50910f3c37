-- `infer::spawn_needs` meets its contract.
use Rattle.infer.proofs.Owning.{spawn-nowhere, spawn-at}
use Rattle.infer.proofs.spawn_needs.Goals as goal

pub returns-in-None : goal.returns-in-None
returns-in-None c = search spawn-nowhere

pub returns-in-Some : goal.returns-in-Some
returns-in-Some c = search spawn-at
