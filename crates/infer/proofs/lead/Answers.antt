-- `infer::lead` meets its contract.
use Rattle.infer.proofs.Leading.{lead-unreached, lead-nowhere, lead-at}
use Rattle.infer.proofs.lead.Goals as goal

pub returns-then-level-eq0 : goal.returns-then-level-eq0
returns-then-level-eq0 c = search lead-unreached

pub returns-in-None : goal.returns-in-None
returns-in-None c = search lead-nowhere

pub returns-in-Some : goal.returns-in-Some
returns-in-Some c = search lead-at
