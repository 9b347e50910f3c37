-- `code::count` meets its contract.
use Rattle.code.proofs.Ends.{count-is}
use Rattle.code.proofs.count.Goals as goal

pub returns : goal.returns
returns c = count-is _ _ c.byte.ensures c.few.ensures
