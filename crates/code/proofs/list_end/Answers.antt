-- `code::list_end` meets its contract.
use Rattle.code.specs.Code.{list_end}
use Rattle.std.proofs.Common.{rules}
use Rattle.code.proofs.list_end.Goals as goal

pub overflow_cast-n : goal.overflow_cast-n
unfolding list_end
overflow_cast-n c = search rules

pub returns : goal.returns
unfolding list_end
returns c = cc
