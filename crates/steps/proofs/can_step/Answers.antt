-- `steps::can_step` meets its contract.
use Rattle.steps.proofs.can_step.Goals as goal

pub returns : goal.returns
returns c = λ P p q w v. (c.first.ensures P p q w v).found
