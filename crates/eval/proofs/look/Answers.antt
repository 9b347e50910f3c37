-- `eval::look` meets its contract.
use borrow.Author.Rules.{sfits_of}
use Rattle.pool.proofs.Readers.{bound-lt}
use Rattle.eval.proofs.Leaves.{look-bound, look-unbound, look-high}
use Rattle.eval.proofs.look.Goals as goal

pub returns-then-bound-x-eq1 : goal.returns-then-bound-x-eq1
returns-then-bound-x-eq1 c = search (look-bound, sfits_of)

pub returns-else-bound-x-eq1 : goal.returns-else-bound-x-eq1
returns-else-bound-x-eq1 c = search (look-unbound)

pub returns-else-x-lt-TEMPORARIES : goal.returns-else-x-lt-TEMPORARIES
returns-else-x-lt-TEMPORARIES c = search (look-high, bound-lt)
