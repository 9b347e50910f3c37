-- `code::operands`: the table's entry for the kind.
use Rattle.code.proofs.Counts.{entry}
use Rattle.code.proofs.operands.Goals as goal

pub returns : goal.returns
returns c = entry _ c.min.ensures
