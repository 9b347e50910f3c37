-- `tidy::put_each` meets its contract.
use Rattle.tidy.proofs.Lists.{list-next, list-end}
use Rattle.tidy.proofs.put_each.Goals as goal

pub loop-i-preserved : goal.loop-i-preserved
loop-i-preserved g c = list-next _ _ c.put-m.ensures c.loop-i.invariant (search) (search)

pub returns : goal.returns
returns g c = search list-end
