-- `valid::place` meets its contract.
use Rattle.valid.proofs.Lookups.{block-there, block-gone}
use Rattle.valid.proofs.place.Goals as goal

pub returns-in-Some : goal.returns-in-Some
returns-in-Some c = search (block-there)

pub returns-in-None : goal.returns-in-None
returns-in-None c = search (block-gone)
