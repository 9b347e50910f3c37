-- `flow::feed`: the loop has taken the bytes of the piece before this one.
use Rattle.std.proofs.Common.{rules, refl}
use Rattle.flow.proofs.Feeding.{turned-first, turned-next, turned-last}
use Rattle.flow.proofs.feed.Goals as goal

pub loop-b-init : goal.loop-b-init
loop-b-init c = turned-first _ _ _ _

pub loop-b-preserved : goal.loop-b-preserved
loop-b-preserved c = turned-next _ _ _ _ _ _ _ _ c.loop-b.invariant _ _ _ (search rules) (search rules) c.put-r.ensures

pub returns : goal.returns
returns c = turned-last _ _ _ _ _ _ _ _ c.loop-b.invariant _ refl c.loop-b-test.false
