-- `bound::temporaries` meets its contract.
use native.Mathlib.Omega.{arith}
use Rattle.bound.proofs.Looks.{all_end, all_in, all-out}
use Rattle.bound.proofs.temporaries.Goals as goal

pub returns-then-not-holds : goal.returns-then-not-holds
returns-then-not-holds c = search (arith, all-out)

pub names-preserved : goal.names-preserved
names-preserved c =
    all_in _ _ _ _ c.names.invariant (omega arith) c.byte.ensures c.holds.ensures (grind arith) c.after-k.ensures (omega arith)

pub returns : goal.returns
returns c = search (arith, all_end)
