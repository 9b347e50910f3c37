-- `kept::mentioned_in` meets its contract.
use Rattle.kept.proofs.Loops.{kept_next}
use Rattle.kept.proofs.Ends.{mentioned-kept}
use Rattle.kept.proofs.mentioned_in.Goals as goal

pub loop-i-preserved : goal.loop-i-preserved
loop-i-preserved c = search kept_next

pub returns : goal.returns
returns c = search mentioned-kept
