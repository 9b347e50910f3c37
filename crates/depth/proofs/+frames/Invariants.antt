-- `depth::frames` meets its contract: the functions left are its measure.
use Prim.Native.Nat.{◌≤◌, ◌<◌}
use mathlib.Core.Path.{◌≡◌}
use lib.ListN.{length}
use Rattle.depth.proofs.Loops.{Left}
use Rattle.depth.proofs.+frames.Given as goal

abbrev pub invariant-loop-b : goal.invariant-loop-b
invariant-loop-b l = (length l.known ≡ length l.initial.known) × (0 < l.most) × (l.most ≤ l.left)
    × Left l.s l.places l.initial.known l.left l.f l.known l.most l.b

abbrev pub decreases-frames : goal.decreases-frames
decreases-frames l = l.left
