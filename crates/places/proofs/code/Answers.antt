-- `places::code`: the block's entry and that of the length of its head.
use Rattle.places.proofs.Lookups.{code_at, code-past, code-none}
use borrow.Author.Rules.{rules}
use Rattle.places.proofs.code.Goals as goal

pub returns-then-b-lt-BLOCKS : goal.returns-then-b-lt-BLOCKS
returns-then-b-lt-BLOCKS c = code_at _ _ _ c.behind.ensures (search rules) (search rules)

pub returns-else-b-lt-BLOCKS : goal.returns-else-b-lt-BLOCKS
returns-else-b-lt-BLOCKS c = code-past _ _ _ (search rules)

pub returns-else-f-lt-FUNCTIONS : goal.returns-else-f-lt-FUNCTIONS
returns-else-f-lt-FUNCTIONS c = code-none _ _ _ (search rules)
