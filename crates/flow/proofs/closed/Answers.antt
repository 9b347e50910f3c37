-- `flow::closed`: the phase tells the stage.
use Rattle.flow.proofs.Standing.{is-closed, is-open}
use Rattle.flow.proofs.closed.Goals as goal

pub returns-in-Stopped : goal.returns-in-Stopped
returns-in-Stopped c = is-closed _ c.in-Stopped.is

pub returns-in_default : goal.returns-in_default
returns-in_default c = is-open _ c.in_default.not-Stopped c.in_default.not-Over
