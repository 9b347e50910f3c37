-- `transfers::behind` meets its contract.
use Rattle.transfers.proofs.behind.Goals as goal

pub returns : goal.returns
returns c = cc
