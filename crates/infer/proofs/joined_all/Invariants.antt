-- `infer::joined_all` meets its contract.
use Prim.Native.Nat.{◌-◌}
use mathlib.Core.Path.{◌≡◌}
use Rattle.code.specs.Code.{run}
use Rattle.scopings.specs.Words.{scope_in}
use Rattle.infer.specs.Needs.{joins}
use Rattle.infer.proofs.joined_all.Given as goal

abbrev pub invariant-named : goal.invariant-named
invariant-named l = joins l.fn.n (scope_in l.words) (run l.s l.first l.count) ≡
    joins l.more (scope_in l.words) (run l.s l.next (l.count - l.counter))
