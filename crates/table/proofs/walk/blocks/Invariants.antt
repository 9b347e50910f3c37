-- `table::walk::blocks`: the loop keeps the place of each and the length of its head, as it passes over them one by one.
use Prim.Native.Nat.{◌-◌, ◌<◌}
use mathlib.Core.Path.{◌≡◌}
use Rattle.model.specs.Read as Read
use Rattle.table.specs.Skips.{skip_of}
use Rattle.table.specs.Versions.{head_of}
use Rattle.table.specs.Marks.{marked, along, block_marks_by}
use Rattle.table.proofs.walk.blocks.Given as goal

abbrev pub invariant-loop-j : goal.invariant-loop-j
invariant-loop-j l =
    let p = head_of l.version in
    (skip_of (Read.many (Read.block_by p) l.n l.s l.at) ≡ skip_of (Read.many (Read.block_by p) (l.n - l.j) l.s l.k))
    × (marked (Read.block_by p) (block_marks_by p l.s l.f) l.n l.s l.at 0 (along l.initial.places 0)
    ≡ marked (Read.block_by p) (block_marks_by p l.s l.f) (l.n - l.j) l.s l.k l.j (along l.places l.before))
    × (l.before < 256)
