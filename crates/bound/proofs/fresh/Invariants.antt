-- `bound::fresh` meets its contract.
use Prim.Native.Nat.{◌-◌, ◌^◌, ◌<◌}
use mathlib.Core.Path.{◌≡◌}
use Rattle.code.specs.Bytes.{past}
use Rattle.code.specs.Code.{run}
use Rattle.bound.specs.Walks.{fresh_as}
use Rattle.bound.proofs.fresh.Given as goal

abbrev pub invariant-names : goal.invariant-names
invariant-names l = (fresh_as l.set (run l.s l.at l.n) (past l.at l.n) ≡
    fresh_as l.bound (run l.s l.k (l.n - l.counter)) (past l.k (l.n - l.counter))) × (l.k < 2 ^ 64)
