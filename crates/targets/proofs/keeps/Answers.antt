-- `targets::keeps` meets its contract.
use Rattle.model.proofs.Facts.{ne_eqb}
use Rattle.targets.proofs.Nestings.{keeps_same, keeps-differ}
use Rattle.targets.proofs.keeps.Goals as goal

pub returns-then-h-n : goal.returns-then-h-n
returns-then-h-n c = search keeps_same

pub returns-else-h-n : goal.returns-else-h-n
returns-else-h-n c = rw (ne_eqb _ _ c.if-h-n.false) (search keeps-differ)
