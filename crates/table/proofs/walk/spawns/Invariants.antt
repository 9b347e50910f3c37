-- `table::walk::spawns`: the loop keeps the place of each as it passes over them one by one.
use Prim.Native.Nat.{◌-◌}
use mathlib.Core.Path.{◌≡◌}
use Rattle.model.specs.Read as Read
use Rattle.table.specs.Skips.{skip_of}
use Rattle.places.specs.Marks.{mark_spawn}
use Rattle.table.specs.Marks.{marked}
use Rattle.table.proofs.walk.spawns.Given as goal

abbrev pub invariant-loop-j : goal.invariant-loop-j
invariant-loop-j l = (skip_of (Read.many Read.spawn_call l.n l.s l.at) ≡ skip_of (Read.many Read.spawn_call (l.n - l.j) l.s l.k))
    × (marked Read.spawn_call (mark_spawn l.f) l.n l.s l.at 0 l.initial.places
    ≡ marked Read.spawn_call (mark_spawn l.f) (l.n - l.j) l.s l.k l.j l.places)
