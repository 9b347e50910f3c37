-- `places::paired`: by the block's parity.
use borrow.Author.Tests.{eq-eqb, ne_eqb}
use Rattle.places.proofs.paired.Goals as goal

pub returns-then-b-eq0 : goal.returns-then-b-eq0
returns-then-b-eq0 c = rw (eq-eqb _ _ c.if-b-eq0.true)

pub returns-else-b-eq0 : goal.returns-else-b-eq0
returns-else-b-eq0 c = rw (ne_eqb _ _ c.if-b-eq0.false)
