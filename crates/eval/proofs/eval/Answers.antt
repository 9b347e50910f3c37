-- `eval::eval` meets its contract.
use borrow.Author.Rules.{sfits_of}
use Rattle.eval.proofs.Leaves.{eval-unbound, eval-unary, eval-half-bound, eval-binary}
use Rattle.eval.proofs.eval.Goals as goal

pub returns-in_default : goal.returns-in_default
returns-in_default c = search (eval-unbound)

pub returns-then-operands-ne2 : goal.returns-then-operands-ne2
returns-then-operands-ne2 c = search (eval-unary, sfits_of)

pub returns-in_default-atom : goal.returns-in_default-atom
returns-in_default-atom c = search (eval-half-bound)

pub returns : goal.returns
returns c = search (eval-binary, sfits_of)
