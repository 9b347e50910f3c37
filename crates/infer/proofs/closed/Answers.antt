-- `infer::closed` meets its contract.
use Rattle.infer.proofs.Marking.{closed_none, closed_some}
use Rattle.infer.proofs.closed.Goals as goal

pub returns-then-n-lt2 : goal.returns-then-n-lt2
returns-then-n-lt2 c = search closed_none

pub returns-else-n-lt2 : goal.returns-else-n-lt2
returns-else-n-lt2 c = search closed_some
