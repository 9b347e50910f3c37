-- `bound::temporaries` meets its contract.
use mathlib.Core.Path.{◌≡◌}
use Prim.Native.Nat.{◌-◌}
use Rattle.model.specs.Lists.{all}
use Rattle.code.specs.Code.{run}
use Rattle.bound.specs.Walks.{holds}
use Rattle.bound.proofs.temporaries.Given as goal

abbrev pub invariant-names : goal.invariant-names
invariant-names l = all (holds l.set) (run l.s l.at l.n) ≡ all (holds l.set) (run l.s l.k (l.n - l.counter))
