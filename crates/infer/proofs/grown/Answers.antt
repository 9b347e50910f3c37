-- `infer::grown` meets its contract.
use Rattle.infer.proofs.Growing.{grown-nowhere, grown-at}
use Rattle.infer.proofs.grown.Goals as goal

pub returns-in-None : goal.returns-in-None
returns-in-None c = search grown-nowhere

pub returns-in-Some : goal.returns-in-Some
returns-in-Some c = search grown-at
