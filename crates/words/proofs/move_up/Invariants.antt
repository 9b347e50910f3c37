-- `words::move_up`: the loop has all but the first `left` words moved.
use Prim.Native.Nat.{◌≤◌}
use Rattle.words.proofs.Moves.{Up}
use Rattle.words.proofs.move_up.Given as goal

abbrev pub invariant-loop-left : goal.invariant-loop-left
invariant-loop-left l = (l.left ≤ l.n) × Up l.initial.d l.from l.to l.n l.d l.left
