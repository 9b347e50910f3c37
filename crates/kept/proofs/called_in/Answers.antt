-- `kept::called_in` meets its contract.
use Rattle.kept.proofs.Names.{called-nowhere, called_at}
use Rattle.kept.proofs.called_in.Goals as goal

pub returns-in_default : goal.returns-in_default
returns-in_default c = search called-nowhere

pub returns-in-Some : goal.returns-in-Some
returns-in-Some c = search called_at
