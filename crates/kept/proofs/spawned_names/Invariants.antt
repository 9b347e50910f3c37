-- `kept::spawned_names` meets its contract.
use Prim.Native.Nat.{◌-◌}
use Rattle.kept.specs.Kept.{Placed, spawned_from}
use Rattle.kept.proofs.Loops.{RestIn}
use Rattle.kept.proofs.spawned_names.Given as goal

abbrev pub invariant-names : goal.invariant-names
invariant-names l =
    RestIn (Placed l.s l.places) l.f l.initial.list (spawned_from l.s l.at l.count) l.list (spawned_from l.s l.next (l.count - l.counter))
