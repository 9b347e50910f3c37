-- `table::walk::functions`: the loop keeps the places of each function as it passes over them one by one.
use Prim.Native.Nat.{◌-◌}
use mathlib.Core.Path.{◌≡◌}
use Rattle.model.specs.Read as Read
use Rattle.table.specs.Skips.{skip_of}
use Rattle.table.specs.Versions.{head_of}
use Rattle.table.specs.Marks.{function_marks_by, marked}
use Rattle.table.proofs.walk.functions.Given as goal

abbrev pub invariant-loop-f : goal.invariant-loop-f
invariant-loop-f l =
    let p = head_of l.version in
    (skip_of (Read.many (Read.function_by p) l.n l.s l.at) ≡ skip_of (Read.many (Read.function_by p) (l.n - l.f) l.s l.k))
    × (marked (Read.function_by p) (function_marks_by p l.s) l.n l.s l.at 0 l.initial.places
    ≡ marked (Read.function_by p) (function_marks_by p l.s) (l.n - l.f) l.s l.k l.f l.places)
