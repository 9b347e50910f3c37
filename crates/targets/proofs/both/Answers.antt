-- `targets::both` meets its contract.
use Rattle.targets.proofs.both.Goals.{then-h-n-via-then-h-n, then-h-n-via-else-h-n+then-k-m}
use Rattle.targets.proofs.both.Goals.{then-not-keeps-via-then-not-keeps, then-not-keeps-via-else-not-keeps+then-not-keeps-2}
use Rattle.targets.proofs.both.Goals.{then-not-part-via-then-not-part, then-not-part-via-else-not-part+then-not-part-2}
use Rattle.targets.proofs.Nestings.{target}
use Rattle.targets.proofs.both.Goals as goal

pub returns-then-h-n : goal.returns-then-h-n
returns-then-h-n c =
    elim c.then-h-n.branch [
      | then-h-n-via-then-h-n w ↦ search target depth 14 fits 6000
      | then-h-n-via-else-h-n+then-k-m w ↦ search target depth 14 fits 6000
    ]

pub returns-then-not-keeps : goal.returns-then-not-keeps
returns-then-not-keeps c =
    elim c.then-not-keeps.branch [
      | then-not-keeps-via-then-not-keeps w ↦ search target depth 14 fits 6000
      | then-not-keeps-via-else-not-keeps+then-not-keeps-2 w ↦ search target depth 14 fits 6000
    ]

pub returns-then-not-part : goal.returns-then-not-part
returns-then-not-part c =
    elim c.then-not-part.branch [
      | then-not-part-via-then-not-part w ↦ search target depth 14 fits 6000
      | then-not-part-via-else-not-part+then-not-part-2 w ↦ search target depth 14 fits 6000
    ]

pub returns : goal.returns
returns c = search target depth 14 fits 6000
