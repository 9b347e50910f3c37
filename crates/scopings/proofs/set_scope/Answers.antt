-- `scopings::set_scope` meets its contract.
use Rattle.scopings.specs.Changes.{level_in, scoped}
use Rattle.scopings.proofs.set_scope.Goals as goal

pub returns : goal.returns
unfolding scoped level_in
returns c = cc
