-- `targets::one` meets its contract.
use Rattle.targets.proofs.Nestings.{target}
use Rattle.targets.proofs.one.Goals as goal

pub returns-then-h-n : goal.returns-then-h-n
returns-then-h-n c = search target depth 14 fits 6000

pub returns-then-not-keeps : goal.returns-then-not-keeps
returns-then-not-keeps c = search target depth 14 fits 6000

pub returns-then-not-part : goal.returns-then-not-part
returns-then-not-part c = search target depth 14 fits 6000

pub returns : goal.returns
returns c = search target depth 14 fits 6000
