-- `rules::takes` meets its contract.
use Rattle.rules.proofs.Heads.{takes_at, takes_none}
use Rattle.rules.proofs.takes.Goals as goal

pub returns-in-Some : goal.returns-in-Some
returns-in-Some c = search (takes_at)

pub returns-in-None : goal.returns-in-None
returns-in-None c = search (takes_none)
