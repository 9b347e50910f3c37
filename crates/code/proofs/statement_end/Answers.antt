-- `code::statement_end` meets its contract.
use Rattle.code.specs.Code.{statement_end}
use Rattle.code.proofs.statement_end.Goals as goal

pub returns : goal.returns
unfolding statement_end
returns c = cc
