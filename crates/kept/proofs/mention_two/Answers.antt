-- `kept::mention_two` meets its contract.
use Rattle.kept.proofs.Names.{two-names}
use Rattle.kept.proofs.mention_two.Goals as goal

pub returns : goal.returns
returns c = search two-names
