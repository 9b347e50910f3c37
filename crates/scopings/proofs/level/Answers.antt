-- `scopings::level` meets its contract.
use Rattle.scopings.specs.Changes.{level_in}
use Rattle.scopings.proofs.level.Goals as goal

pub returns : goal.returns
unfolding level_in
returns c = cc
