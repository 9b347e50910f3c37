-- `places::mark_spawn`: one store.
use Rattle.places.proofs.mark_spawn.Goals as goal

pub returns : goal.returns
returns c = rw c.short.ensures
