use Rattle.places.proofs.Lookups.{block-at, block-past, block_none}
use borrow.Author.Rules.{rules}
use Rattle.places.proofs.block.Goals as goal

pub returns-then-b-lt-BLOCKS : goal.returns-then-b-lt-BLOCKS
returns-then-b-lt-BLOCKS c = block-at _ _ _ c.entry.ensures (search rules) (search rules)

pub returns-else-b-lt-BLOCKS : goal.returns-else-b-lt-BLOCKS
returns-else-b-lt-BLOCKS c = block-past _ _ _ (search rules)

pub returns-else-f-lt-FUNCTIONS : goal.returns-else-f-lt-FUNCTIONS
returns-else-f-lt-FUNCTIONS c = block_none _ _ _ (search rules)
