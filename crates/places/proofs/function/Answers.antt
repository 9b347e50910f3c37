use Rattle.places.proofs.Lookups.{function-at, function-past}
use borrow.Author.Rules.{rules}
use Rattle.places.proofs.function.Goals as goal

pub returns-then-f-lt-FUNCTIONS : goal.returns-then-f-lt-FUNCTIONS
returns-then-f-lt-FUNCTIONS c = function-at _ _ c.entry.ensures (search rules)

pub returns-else-f-lt-FUNCTIONS : goal.returns-else-f-lt-FUNCTIONS
returns-else-f-lt-FUNCTIONS c = function-past _ _ (search rules)
