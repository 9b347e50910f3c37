-- `rules::valued` meets its contract.
use Rattle.rules.proofs.Steps.{valued-stmt, valued-if, valued-overflow, valued-stuck}
use Rattle.rules.proofs.valued.Goals as goal

pub returns-in-Some : goal.returns-in-Some
returns-in-Some c = search (valued-stmt)

pub returns-in_default : goal.returns-in_default
returns-in_default c = search (valued-if)

pub returns-in-Overflow : goal.returns-in-Overflow
returns-in-Overflow c = search (valued-overflow)

pub returns-in-Unbound : goal.returns-in-Unbound
returns-in-Unbound c = search (valued-stuck)
