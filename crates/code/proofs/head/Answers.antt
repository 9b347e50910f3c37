-- `code::head` meets its contract.
use Rattle.code.specs.Code.{count_at, list_end, nesting_at, head_end, opening_at}
use Rattle.code.proofs.head.Goals as goal

pub returns : goal.returns
unfolding count_at list_end nesting_at head_end opening_at
returns c = cc
