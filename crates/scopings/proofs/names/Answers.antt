-- `scopings::names` meets its contract.
use Rattle.scopings.specs.Changes.{names_in}
use Rattle.scopings.proofs.names.Goals as goal

pub returns : goal.returns
unfolding names_in
returns c = cc
