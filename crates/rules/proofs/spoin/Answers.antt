-- `rules::spoin` meets its contract.
use Rattle.rules.proofs.Heads.{handed}
use Rattle.rules.proofs.Steps.{spoin-none, spoin-unpromoted, spoin-lost, spoin-promoted}
use Rattle.rules.proofs.spoin.Goals as goal

pub returns-then-n-eq0 : goal.returns-then-n-eq0
returns-then-n-eq0 c = search (spoin-none)

pub returns-in_err-entry : goal.returns-in_err-entry
returns-in_err-entry c = let h = handed _ _ c.from_residual.ensures.1 c.in_err-entry.was in search (spoin-lost)

pub returns-then-promoted-n : goal.returns-then-promoted-n
returns-then-promoted-n c = let h = c.in_ok-entry.was in search (spoin-unpromoted)

pub returns : goal.returns
returns c = search (spoin-promoted)
