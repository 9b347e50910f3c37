-- `rules::act` meets its contract.
use Rattle.rules.proofs.Steps.{acts-coming, acts-nowhere}
use Rattle.rules.proofs.act.Goals as goal

pub returns-in_default : goal.returns-in_default
returns-in_default c = search (acts-nowhere)

pub returns : goal.returns
returns c = search (acts-coming)
