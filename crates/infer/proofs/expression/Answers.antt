-- `infer::expression` meets its contract.
use Rattle.infer.proofs.Needing.{expression-one, expression-two}
use Rattle.infer.proofs.expression.Goals as goal

pub returns-then-operands-eq2 : goal.returns-then-operands-eq2
returns-then-operands-eq2 c = search expression-two

pub returns-else-operands-eq2 : goal.returns-else-operands-eq2
returns-else-operands-eq2 c = search expression-one
