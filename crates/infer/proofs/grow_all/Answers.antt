-- `infer::grow_all` meets its contract.
use Rattle.infer.proofs.Growing.{grows-first, grows-next, grows_end}
use borrow.Author.Rules.{rules}
use Rattle.infer.proofs.grow_all.Goals as goal

pub loop-b-init : goal.loop-b-init
loop-b-init c = search (grows-first, rules)

pub loop-b-preserved : goal.loop-b-preserved
loop-b-preserved c = search (grows-next, rules)

pub returns : goal.returns
returns c = search (grows_end, rules)
