-- `valid::trees`: the threads before i are right, and `demands` trees are still to come.
use Prim.Native.Nat.{◌+◌, ◌*◌, ◌≤◌}
use mathlib.Core.Path.{◌≡◌}
use Rattle.model.specs.Syntax.{Program}
use Rattle.model.specs.Pool.{most_frames, thread_words, runs}
use Rattle.places.specs.Places.{Places}
use Rattle.valid.specs.Judged.{beyond, forest}
use Rattle.valid.proofs.Turns.{from}
use Rattle.valid.proofs.trees.Given as goal

abbrev pub invariant-loop-i : goal.invariant-loop-i
invariant-loop-i l = (l.i ≤ l.n) ×
    (l.demands ≤ 1 + l.i * (most_frames * beyond)) ×
    ((P : Program) → Places l.s P l.places → forest P 1 (runs thread_words l.n l.ws) ≡ from P l.ws l.n l.i l.demands)
