-- `complete::reach` meets its contract.
use Rattle.complete.proofs.Reaching.{reach-nowhere, reach-all, reach-not}
use Rattle.complete.proofs.reach.Goals as goal

pub returns-in_default : goal.returns-in_default
returns-in_default c = search reach-nowhere

pub returns-in-None : goal.returns-in-None
returns-in-None c = search reach-all

pub returns-in-Some-unreached : goal.returns-in-Some-unreached
returns-in-Some-unreached c = search reach-not
