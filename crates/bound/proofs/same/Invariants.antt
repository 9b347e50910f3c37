-- `bound::same` meets its contract.
use Prim.Native.Nat.{◌-◌}
use mathlib.Core.Path.{◌≡◌}
use Rattle.model.specs.Lists.{equal}
use Rattle.code.specs.Code.{run}
use Rattle.bound.proofs.same.Given as goal

abbrev pub invariant-names : goal.invariant-names
invariant-names l = equal (run l.s l.a l.n) (run l.s l.b l.n) ≡ equal (run l.s l.i (l.n - l.counter)) (run l.s l.j (l.n - l.counter))
