-- `places::mark_head`: one store.
use Rattle.places.proofs.mark_head.Goals as goal

pub returns : goal.returns
returns c = rw c.paired.ensures
