-- `kept::blocks` meets its contract.
use Rattle.kept.proofs.Ends.{blocks-first, blocks-next, blocks-stop, blocks_end}
use Rattle.kept.proofs.blocks.Goals as goal

pub loop-i-init : goal.loop-i-init
loop-i-init c = search blocks-first

pub returns-then-list-i : goal.returns-then-list-i
returns-then-list-i c = search blocks-stop

pub loop-i-preserved : goal.loop-i-preserved
loop-i-preserved c = search blocks-next

pub returns : goal.returns
returns c = search blocks_end
