-- `places::mark_function`: one store.
use Rattle.places.proofs.mark_function.Goals as goal

pub returns : goal.returns
returns c = rw c.short.ensures
