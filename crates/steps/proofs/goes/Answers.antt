use Rattle.steps.proofs.Stepping.{tries}
use Rattle.steps.proofs.goes.Goals as goal

pub returns : goal.returns
returns c = tries c.choice.ensures c.is_ok.ensures.value
