-- `infer::follow` meets its contract.
use borrow.Author.Rules.{rules}
use Rattle.infer.proofs.Marking.{follows-first, follows-next, follows-end}
use Rattle.infer.proofs.follow.Goals as goal

pub named-init : goal.named-init
named-init c = search (follows-first, rules)

pub named-preserved : goal.named-preserved
named-preserved c = search (follows-next, rules)

pub returns : goal.returns
returns c = search (follows-end, rules)
