-- `kept::Kept::mention` meets its contract.
use Rattle.kept.proofs.Arrays.{stays, comes}
use Rattle.kept.proofs.Kept.mention.Goals as goal

pub returns-then-number : goal.returns-then-number
returns-then-number c = search stays

pub returns : goal.returns
returns c = search comes
