use Rattle.steps.proofs.Writing.{was-arrived}
use Rattle.steps.proofs.arrive.Goals as goal

pub returns : goal.returns
returns c = was-arrived c.requires _ c.args.entry _ c.jump.ensures c.bind_all.ensures
