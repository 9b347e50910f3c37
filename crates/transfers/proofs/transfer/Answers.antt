-- `transfers::transfer` meets its contract.
use Rattle.transfers.proofs.Lookups.{transfer-past}
use Rattle.transfers.proofs.transfer.Goals as goal

pub returns-else-f-lt-FUNCTIONS : goal.returns-else-f-lt-FUNCTIONS
returns-else-f-lt-FUNCTIONS c = transfer-past _ _ _ c.else-f-lt-FUNCTIONS.either
