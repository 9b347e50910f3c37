-- `verifier::entered` meets its contract.
use native.Mathlib.Nat.{one-le-pow}
use native.Mathlib.Omega.{arith}
use Rattle.words.proofs.Sets.{low}
use Rattle.verifier.proofs.Ranks.{entered-not, entered-scope}
use Rattle.verifier.proofs.entered.Goals as goal

pub overflow_sub-result : goal.overflow_sub-result
overflow_sub-result c =
    let (p, q, l) = c.if-n-lt-TEMPORARIES.true in
    rw (low c.in-Some.n l) (one-le-pow c.in-Some.n 2 (omega arith))

pub returns-then-n-lt-TEMPORARIES : goal.returns-then-n-lt-TEMPORARIES
returns-then-n-lt-TEMPORARIES c =
    let (p, q, l) = c.if-n-lt-TEMPORARIES.true in
    search entered-scope

pub returns-else-n-lt-TEMPORARIES : goal.returns-else-n-lt-TEMPORARIES
returns-else-n-lt-TEMPORARIES c = search entered-not
