-- `infer::need_all` meets its contract.
use Rattle.infer.proofs.Owning.{needs-first, needs-next, needs-end}
use borrow.Author.Rules.{rules}
use Rattle.infer.proofs.need_all.Goals as goal

pub loop-b-init : goal.loop-b-init
loop-b-init c = search (needs-first, rules)

pub loop-b-preserved : goal.loop-b-preserved
loop-b-preserved c = search (needs-next, rules)

pub returns : goal.returns
returns c = search (needs-end, rules)
