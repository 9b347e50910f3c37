-- `complete::put_each` meets its contract.
use Rattle.complete.proofs.Lists.{each-next, each-end}
use Rattle.complete.proofs.put_each.Goals as goal

pub loop-i-preserved : goal.loop-i-preserved
loop-i-preserved g c = each-next _ _ c.put-m.ensures c.loop-i.invariant (search)

pub returns : goal.returns
returns g c = search each-end
