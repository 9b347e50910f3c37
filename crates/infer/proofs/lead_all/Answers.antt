-- `infer::lead_all` meets its contract.
use Rattle.infer.proofs.Leading.{leads-first, leads-next, leads-end}
use borrow.Author.Rules.{rules}
use Rattle.infer.proofs.lead_all.Goals as goal

pub loop-b-init : goal.loop-b-init
loop-b-init c = search (leads-first, rules)

pub loop-b-preserved : goal.loop-b-preserved
loop-b-preserved c = search (leads-next, rules)

pub returns : goal.returns
returns c = search (leads-end, rules)
