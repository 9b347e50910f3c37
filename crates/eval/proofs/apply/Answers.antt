-- `eval::apply` meets its contract.
use Rattle.eval.proofs.Working.{apply-atom, apply-minus, apply-plus, apply-less}
use Rattle.eval.proofs.apply.Goals as goal

pub returns-in-0 : goal.returns-in-0
returns-in-0 c = search (apply-atom)

pub returns-in-1 : goal.returns-in-1
returns-in-1 c = search (apply-minus)

pub returns-in-2 : goal.returns-in-2
returns-in-2 c = search (apply-plus)

pub returns-in_default : goal.returns-in_default
returns-in_default c = search (apply-less)
