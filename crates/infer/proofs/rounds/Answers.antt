-- `infer::rounds` meets its contract.
use Rattle.infer.proofs.Sweeps.{rounds-first, rounds-next, rounds-over, rounds-end}
use Rattle.infer.proofs.rounds.Goals as goal

pub rounds-init : goal.rounds-init
rounds-init g c = search rounds-first

pub rounds-preserved : goal.rounds-preserved
rounds-preserved g c = rounds-next _ _ c.round.ensures c.rounds.invariant (search) (search)

pub returns-then-not-round : goal.returns-then-not-round
returns-then-not-round g c = rounds-over _ _ c.round.ensures c.rounds.invariant (search) (search)

pub returns : goal.returns
returns g c = search rounds-end
