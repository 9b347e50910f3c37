-- `targets::grown` meets its contract.
use Rattle.targets.proofs.Nestings.{target}
use Rattle.targets.proofs.grown.Goals as goal

pub returns-then-h-ne0 : goal.returns-then-h-ne0
returns-then-h-ne0 c = search target depth 14 fits 6000

pub returns-then-not-adds : goal.returns-then-not-adds
returns-then-not-adds c = search target depth 14 fits 6000

pub returns-then-not-part : goal.returns-then-not-part
returns-then-not-part c = search target depth 14 fits 6000

pub returns : goal.returns
returns c = search target depth 14 fits 6000
