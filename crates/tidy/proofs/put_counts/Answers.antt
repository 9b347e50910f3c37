-- `tidy::put_counts` meets its contract.
use Rattle.tidy.proofs.Placed.{counts-nowhere, counts-at}
use Rattle.tidy.proofs.put_counts.Goals as goal

pub returns-in_default : goal.returns-in_default
returns-in_default c = search counts-nowhere

pub returns : goal.returns
returns c = search counts-at
