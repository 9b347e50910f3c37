-- `code::expression_end` meets its contract.
use Rattle.code.proofs.Ends.{end-two, end-one}
use Rattle.code.proofs.expression_end.Goals as goal

pub returns-then-operands-eq2 : goal.returns-then-operands-eq2
returns-then-operands-eq2 c = search (end-two)

pub returns-else-operands-eq2 : goal.returns-else-operands-eq2
returns-else-operands-eq2 c = search (end-one)
