-- `scopings::scope` meets its contract.
use Rattle.scopings.specs.Words.{scope_in}
use Rattle.scopings.proofs.scope.Goals as goal

pub returns : goal.returns
unfolding scope_in
returns c = cc
