use borrow.Author.Tests.{eq-eqb, ne_eqb}
use Rattle.places.proofs.entry.Goals as goal

pub returns-then-at-eq-ABSENT : goal.returns-then-at-eq-ABSENT
returns-then-at-eq-ABSENT c = rw (eq-eqb _ _ c.if-at-eq-ABSENT.true)

pub returns-else-at-eq-ABSENT : goal.returns-else-at-eq-ABSENT
returns-else-at-eq-ABSENT c = rw (ne_eqb _ _ c.if-at-eq-ABSENT.false)
