-- `bound::statements` meets its contract.
use Prim.Native.Nat.{◌-◌}
use mathlib.Core.Path.{◌≡◌}
use Rattle.code.specs.Code.{statements_at, statements_end}
use Rattle.bound.specs.Walks.{statements_as}
use Rattle.bound.proofs.statements.Given as goal

abbrev pub invariant-lines : goal.invariant-lines
invariant-lines l = statements_as l.set (statements_at l.s l.at l.n) (statements_end l.s l.at l.n) ≡
    statements_as l.bound (statements_at l.s l.k (l.n - l.counter)) (statements_end l.s l.k (l.n - l.counter))
