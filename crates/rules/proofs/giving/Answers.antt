-- `rules::giving` meets its contract.
use Rattle.rules.proofs.Endings.{giving-at, giving-nowhere}
use Rattle.rules.proofs.giving.Goals as goal

pub returns-in_err-at : goal.returns-in_err-at
returns-in_err-at c = let h = c.in_err-at.was in rw c.from_residual.ensures (search (giving-nowhere))

pub returns : goal.returns
returns c = let h = c.in_ok-at.was in search (giving-at)
