-- `infer::follow_one` meets its contract.
use Rattle.infer.proofs.Marking.{follow-old, follow-new}
use Rattle.infer.proofs.follow_one.Goals as goal

pub returns-then-level-ne0 : goal.returns-then-level-ne0
returns-then-level-ne0 c = search follow-old

pub returns : goal.returns
returns c = search follow-new
