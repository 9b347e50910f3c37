-- `flow::front`: no more than there are.
use Rattle.flow.proofs.Taking.{front-part}
use Rattle.flow.proofs.front.Goals as goal

pub returns : goal.returns
returns c = front-part c.args.s.now c.args.n c.min.ensures
