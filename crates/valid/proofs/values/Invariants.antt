-- `valid::values`: the values before i are right, or not fine.
use Prim.Native.Nat.{◌≤◌}
use mathlib.Core.Path.{◌≡◌}
use mathlib.Core.Bool.{◌&&◌}
use lib.ListN.{drop}
use Rattle.model.specs.Pool.{temporaries, blank}
use Rattle.valid.proofs.values.Given as goal

abbrev pub invariant-loop-i : goal.invariant-loop-i
invariant-loop-i l = (l.i ≤ temporaries) × (blank l.bound 0 l.ws ≡ (l.fine && blank l.bound l.i (drop l.i l.ws)))
