-- `infer::opened` meets its contract.
use Rattle.infer.proofs.Marking.{opened-first, opened-second, opened-third, opened-fourth, opened-full}
use borrow.Author.Rules.{rules}
use Rattle.infer.proofs.opened.Goals as goal

pub returns-in-1 : goal.returns-in-1
returns-in-1 c = search (opened-first, rules)

pub returns-in-2 : goal.returns-in-2
returns-in-2 c = search (opened-second, rules)

pub returns-in-3 : goal.returns-in-3
returns-in-3 c = search (opened-third, rules)

pub returns-in-4 : goal.returns-in-4
returns-in-4 c = search (opened-fourth, rules)

pub returns-in_default : goal.returns-in_default
returns-in_default c = search opened-full
