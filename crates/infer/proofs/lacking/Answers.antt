-- `infer::lacking` meets its contract.
use Rattle.infer.proofs.Needing.{lack-bound, lack-new}
use Rattle.infer.proofs.lacking.Goals as goal

pub returns-then-holds : goal.returns-then-holds
returns-then-holds c = search lack-bound

pub returns-else-holds : goal.returns-else-holds
returns-else-holds c = search lack-new
