use Rattle.places.proofs.Lookups.{spawn-at, spawn-past, spawn-none}
use borrow.Author.Rules.{rules}
use Rattle.places.proofs.spawn.Goals as goal

pub returns-then-k-lt-SPAWNS : goal.returns-then-k-lt-SPAWNS
returns-then-k-lt-SPAWNS c = spawn-at _ _ _ c.entry.ensures (search rules) (search rules)

pub returns-else-k-lt-SPAWNS : goal.returns-else-k-lt-SPAWNS
returns-else-k-lt-SPAWNS c = spawn-past _ _ _ (search rules)

pub returns-else-f-lt-FUNCTIONS : goal.returns-else-f-lt-FUNCTIONS
returns-else-f-lt-FUNCTIONS c = spawn-none _ _ _ (search rules)
