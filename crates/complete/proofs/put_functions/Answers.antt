-- `complete::put_functions` meets its contract.
use borrow.Author.Rules.{rules}
use Rattle.complete.proofs.Functions.{functions-next, functions-end}
use Rattle.complete.proofs.put_functions.Goals as goal

pub loop-f-preserved : goal.loop-f-preserved
loop-f-preserved c = (search rules, search functions-next)

pub returns : goal.returns
returns c = search functions-end
