-- `verifier::spawns_all` meets its contract.
use Rattle.bound.proofs.Exits.{exits}
use Rattle.verifier.proofs.Ranks.{spawns-none, spawns-stop, spawns-end, spawns-on}
use Rattle.verifier.proofs.spawns_all.Goals as goal

pub returns-in_default : goal.returns-in_default
returns-in_default c = search spawns-none

pub returns-in_err-spawns : goal.returns-in_err-spawns
returns-in_err-spawns c =
    rw (exits c.from_residual.result c.from_residual.ensures.1) (search (spawns-stop, c.in_err-spawns.was))

pub loop-k-preserved : goal.loop-k-preserved
loop-k-preserved c = search (spawns-on, c.in_ok-spawns.was)

pub returns : goal.returns
returns c = search spawns-end
