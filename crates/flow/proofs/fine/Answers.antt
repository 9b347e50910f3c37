-- `flow::fine`: the phase tells the stage.
use Rattle.flow.proofs.Standing.{is-fine, no-fine}
use Rattle.flow.proofs.fine.Goals as goal

pub returns-in-Choosing : goal.returns-in-Choosing
returns-in-Choosing c = is-fine _ c.in-Choosing.is

pub returns-in_default : goal.returns-in_default
returns-in_default c = no-fine _ c.in_default.not-Choosing
