-- `kept::functions` meets its contract.
use Rattle.kept.proofs.Ends.{functions-first, functions-next, functions-stop, functions-end}
use Rattle.kept.proofs.functions.Goals as goal

pub loop-i-init : goal.loop-i-init
loop-i-init c = search functions-first

pub returns-then-list-i : goal.returns-then-list-i
returns-then-list-i c = search functions-stop

pub loop-i-preserved : goal.loop-i-preserved
loop-i-preserved c = search functions-next

pub returns : goal.returns
returns c = search functions-end
