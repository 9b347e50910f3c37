-- `rules::spork` meets its contract.
use Rattle.rules.proofs.Heads.{handed}
use Rattle.rules.proofs.Steps.{spork-goes, spork-lost, spork-full, spork-missing}
use Rattle.rules.proofs.spork.Goals as goal

pub returns-in_default : goal.returns-in_default
returns-in_default c = search (spork-missing)

pub returns-then-opened-ge-CALLS : goal.returns-then-opened-ge-CALLS
returns-then-opened-ge-CALLS c = search (spork-full)

pub returns-in_err-entry : goal.returns-in_err-entry
returns-in_err-entry c = let h = handed _ _ c.from_residual.ensures.1 c.in_err-entry.was in search (spork-lost)

pub returns : goal.returns
returns c = let h = c.in_ok-entry.was in search (spork-goes)
