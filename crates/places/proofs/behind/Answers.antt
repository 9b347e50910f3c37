-- `places::behind`: the block's entry, and the length where there is a block.
use borrow.Author.Tests.{eq-eqb, ne_eqb}
use Rattle.places.proofs.behind.Goals as goal

pub returns-then-block-eq-ABSENT : goal.returns-then-block-eq-ABSENT
returns-then-block-eq-ABSENT c = rw (eq-eqb _ _ c.if-block-eq-ABSENT.true)

pub returns-else-block-eq-ABSENT : goal.returns-else-block-eq-ABSENT
returns-else-block-eq-ABSENT c = rw (ne_eqb _ _ c.if-block-eq-ABSENT.false, c.length.ensures)
