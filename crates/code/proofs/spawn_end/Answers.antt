-- `code::spawn_end` meets its contract.
use Rattle.code.specs.Code.{spawn_end}
use Rattle.code.proofs.spawn_end.Goals as goal

pub returns : goal.returns
unfolding spawn_end
returns c = cc
