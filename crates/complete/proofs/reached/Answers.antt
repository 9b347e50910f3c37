-- `complete::reached` meets its contract.
use borrow.Author.Rules.{rules}
use Rattle.complete.proofs.Reaching.{reached-next, reached-not, reached-end}
use Rattle.complete.proofs.reached.Goals as goal

pub returns-in_err-reach : goal.returns-in_err-reach
returns-in_err-reach c = search (rules, reached-not)

pub loop-f-preserved : goal.loop-f-preserved
loop-f-preserved c = (search rules, search (rules, reached-next))

pub returns : goal.returns
returns c = search reached-end
