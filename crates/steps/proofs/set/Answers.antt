use mir.Facts.{to_z-of_z}
use Rattle.steps.proofs.Writing.{was-set}
use Rattle.steps.proofs.set.Goals as goal

pub returns : goal.returns
returns c =
    rw (← to_z-of_z c.ranges.v)
    (was-set c.requires _ _ c.advance.ensures c.bind.ensures)
