-- `infer::bind_run` meets its contract.
use mathlib.Core.Path.{◌≡◌}
use Prim.Native.Nat.{◌-◌}
use Rattle.code.specs.Code.{run}
use Rattle.infer.specs.Needs.{binding_all}
use Rattle.infer.proofs.bind_run.Given as goal

abbrev pub invariant-run : goal.invariant-run
invariant-run l = binding_all l.set (run l.s l.at l.n) ≡ binding_all l.bound (run l.s l.next (l.n - l.counter))
