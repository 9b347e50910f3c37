-- `bound::expression` meets its contract.
use Rattle.bound.proofs.Looks.{expression-out, expression-one, expression-two}
use Rattle.bound.proofs.expression.Goals as goal

pub returns-in_err-second : goal.returns-in_err-second
returns-in_err-second c = rw c.from_residual.ensures (search (expression-out, c.in_err-second.was))

pub returns-then-operands-eq2 : goal.returns-then-operands-eq2
returns-then-operands-eq2 c = search (expression-two, c.in_ok-second.was)

pub returns-else-operands-eq2 : goal.returns-else-operands-eq2
returns-else-operands-eq2 c = search (expression-one, c.in_ok-second.was)
