-- `scopings::mark` meets its contract.
use Rattle.scopings.specs.Words.{scope_in}
use Rattle.scopings.specs.Changes.{marked}
use Rattle.scopings.proofs.mark.Goals as goal

pub returns : goal.returns
unfolding marked scope_in
returns c = cc
