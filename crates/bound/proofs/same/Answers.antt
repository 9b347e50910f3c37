-- `bound::same` meets its contract.
use native.Mathlib.Omega.{arith}
use Rattle.bound.proofs.Looks.{same_end, same-differ, same-on}
use Rattle.bound.proofs.same.Goals as goal

pub returns-then-byte : goal.returns-then-byte
returns-then-byte c = search (arith, same-differ)

pub names-preserved : goal.names-preserved
names-preserved c = search (arith, same-on)

pub returns : goal.returns
returns c = search (arith, same_end)
