-- `kept::spawns` meets its contract.
use Rattle.kept.proofs.Loops.{kept_next}
use Rattle.kept.proofs.Ends.{spawns-kept}
use Rattle.kept.proofs.spawns.Goals as goal

pub loop-i-preserved : goal.loop-i-preserved
loop-i-preserved c = search kept_next

pub returns : goal.returns
returns c = search spawns-kept
