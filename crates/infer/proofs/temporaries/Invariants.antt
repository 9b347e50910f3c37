-- `infer::temporaries` meets its contract.
use mathlib.Core.Path.{◌≡◌}
use Prim.Native.Nat.{◌-◌}
use Rattle.code.specs.Code.{run}
use Rattle.infer.specs.Needs.{lacks}
use Rattle.infer.proofs.temporaries.Given as goal

abbrev pub invariant-run : goal.invariant-run
invariant-run l = lacks l.fn.n (run l.s l.at l.count) ≡ lacks l.more (run l.s l.next (l.count - l.counter))
