-- `rules::ending` meets its contract.
use Rattle.rules.proofs.Endings.{ending-stmt, ending-other, ending-open, ending-unbound, ending-gives}
use Rattle.rules.proofs.ending.Goals as goal

pub returns-then-done-n : goal.returns-then-done-n
returns-then-done-n c = search (ending-stmt)

pub returns-in_default : goal.returns-in_default
returns-in_default c = search (ending-other)

pub returns-then-opened-ne0 : goal.returns-then-opened-ne0
returns-then-opened-ne0 c = search (ending-open)

pub returns-then-not-look_all : goal.returns-then-not-look_all
returns-then-not-look_all c = search (ending-unbound)

pub returns : goal.returns
returns c = search (ending-gives)
