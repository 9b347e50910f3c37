-- `rules::enter` meets its contract.
use Rattle.rules.proofs.Heads.{enters, not-enters, not_there}
use Rattle.rules.proofs.enter.Goals as goal

pub returns-in_default : goal.returns-in_default
returns-in_default c = search (not_there)

pub returns-then-count-n : goal.returns-then-count-n
returns-then-count-n c = search (not-enters)

pub returns : goal.returns
returns c = search (enters)
