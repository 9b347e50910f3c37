-- `places::mark_block`: one store.
use Rattle.places.proofs.mark_block.Goals as goal

pub returns : goal.returns
returns c = rw c.short.ensures
