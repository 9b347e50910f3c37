-- `code::head_end` meets its contract.
use Rattle.code.specs.Code.{nesting_at, head_end}
use Rattle.code.proofs.head_end.Goals as goal

pub returns : goal.returns
unfolding nesting_at head_end
returns c = cc
