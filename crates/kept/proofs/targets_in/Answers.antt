-- `kept::targets_in` meets its contract.
use Rattle.kept.proofs.Names.{transfer-nowhere, transfer-names}
use Rattle.kept.proofs.targets_in.Goals as goal

pub returns-in_default : goal.returns-in_default
returns-in_default c = search transfer-nowhere

pub returns-in-Some : goal.returns-in-Some
returns-in-Some c = search transfer-names
