use Rattle.steps.proofs.Writing.{was-shut}
use Rattle.steps.proofs.shut.Goals as goal

pub returns : goal.returns
returns c =
    was-shut c.requires _ c.close_last.ensures c.jump.ensures
