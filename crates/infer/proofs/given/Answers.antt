-- `infer::given` meets its contract.
use Rattle.infer.proofs.Ends.{given-nowhere, given-at}
use Rattle.infer.proofs.given.Goals as goal

pub returns-in-None : goal.returns-in-None
returns-in-None c = search given-nowhere

pub returns-in-Some : goal.returns-in-Some
returns-in-Some c = search given-at
